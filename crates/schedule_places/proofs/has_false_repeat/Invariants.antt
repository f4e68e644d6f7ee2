-- `schedule_places::has_false_repeat` meets its contract. The invariant: no slot passed so far has a false repeat.
use Rattle.laws.proofs.Base.{◌≡◌, false, ℕ, ◌<◌}
use Rattle.schedule.specs.Paper.{false_repeat}
use Rattle.schedule.specs.Inner.{told_by}
use Rattle.schedule_places.proofs.has_false_repeat.Given as goal

abbrev pub invariant-loop-i : goal.invariant-loop-i
invariant-loop-i l = (k : ℕ) → k < l.i → false_repeat (told_by l.message l.places) k ≡ false
