-- `schedule::has_new_past` meets its contract. The invariant: no slot passed so far is past End with its new bit set.
use Rattle.laws.proofs.Base.{◌≡◌, false, ℕ, ◌<◌}
use Rattle.schedule.specs.Paper.{new_past}
use Rattle.schedule.proofs.has_new_past.Given as goal

abbrev pub invariant-loop-i : goal.invariant-loop-i
invariant-loop-i l = (k : ℕ) → k < l.i → new_past l.message k ≡ false
