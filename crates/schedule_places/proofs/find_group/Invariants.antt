-- `schedule_places::find_group` meets its contract. The invariant: the slots passed are found, and the place is that after their descriptions.
use Rattle.laws.proofs.Base.{◌≡◌, ◌≤◌, length}
use Rattle.schedule_places.specs.Inner.{Finds}
use Rattle.schedule_places.proofs.find_group.Given as goal

abbrev pub invariant-loop-i : goal.invariant-loop-i
invariant-loop-i l = (l.at ≤ l.received) × (length l.places ≡ 48) × (length l.firsts ≡ 48) × Finds l.message l.new l.i l.initial.places l.initial.firsts l.places l.firsts l.at
