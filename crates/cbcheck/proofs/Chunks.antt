-- A log that is read chunk by chunk is checked as if it were read at once, and by what is found once for two plans as by the plans.
use Rattle.laws.proofs.Base.{◌≡◌, List, ℕ, replicate}
use Rattle.block.specs.Paper.{Held}
use Rattle.plan.specs.Paper.{Plan}
use Rattle.checker.specs.Paper.{SlotsChecked, check_slots}
use Rattle.checker_plans.specs.Inner.{beside}
use Rattle.checker.proofs.Telling.{slots_beside_lem}
use Rattle.logs.specs.Claims.{InChunks}
use Rattle.logs.proofs.Chunks.{in_chunks as listing_in_chunks}
use Rattle.cbcheck.specs as defs
use defs.Paper.{line_of, lines}
use defs.Inner.{fresh_beside}

pub in_chunks : (k : List ℕ → ℕ → SlotsChecked) → InChunks (line_of k)
in_chunks k = listing_in_chunks (line_of k)

pub lines_beside : (c p : Plan) (h : Held) (n : ℕ) (ps : List (List ℕ))
    → lines (fresh_beside (beside c p)) h n ps ≡ lines (λ (m : List ℕ) (received : ℕ). check_slots c p m received (replicate 48 0)) h n ps
lines_beside c p h n ps = λ i. lines (λ m received. slots_beside_lem c p m received (replicate 48 0) i) h n ps
