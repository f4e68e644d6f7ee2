-- What the two forms of the intake share: where a piece goes, and what they leave where it is added.
use Rattle.std.specs.Prelude.{◌≡◌, Bool, cond, List, ℕ, suc, ◌*◌, ◌-◌, ◌≤◌, eqb, length, drop, replicate}
use Rattle.laws.specs.Ruled.{ruled}
use Rattle.block.specs.Paper.{Kind, page, schedule, code, follows, faults, last, Held, Given, handed, kept}

-- a piece is refused by a number, or begins a message of a kind, or is the next block; the flag says whether it completes the message
pub data Place : Type 0 where
  none : ℕ → Place
  first : Kind → Bool → Place
  next : Bool → Place

-- 01 Intake: the place of a piece beside the number of blocks taken
unfoldable pub place_of : ℕ → List ℕ → Place
place_of taken p =
    ruled none (faults taken p)
    (cond (follows (code p)) (next (last p (suc taken))) (first (cond (eqb (code p) 8) schedule page) (last p 1)))

-- a state by its three parts
abbrev pub state_with : ℕ → ℕ → List ℕ → Held
state_with kind taken octets = record { kind = kind; taken = taken; octets = octets }

-- 01 Intake: the answer to a piece that is added: handed out with the last block, kept before it
abbrev pub outcome : Bool → Held → Given
outcome l h = cond l (handed h) (kept h)

-- what a message and a piece must be for the piece to be added
pub record Adds (taken : ℕ) (octets p : List ℕ) : Type 0 where
  pub whole : length p ≡ 23
  pub room : taken ≤ 3
  pub rest : drop (22 * taken) octets ≡ replicate (88 - 22 * taken) 0x2b
