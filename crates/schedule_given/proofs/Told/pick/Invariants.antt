-- `schedule_given::Told::pick` meets its contract. The invariant: the slots of the group that were passed and those still to pass make up the place.
use Rattle.laws.proofs.Base.{◌≡◌, ◌+◌}
use Rattle.laws.specs.Upto.{count}
use Rattle.schedule.specs.Paper.{grouped}
use Rattle.schedule_given.proofs.Told.pick.Given as goal

abbrev pub invariant-loop-i : goal.invariant-loop-i
invariant-loop-i l = count (grouped l.self.message.now l.new) l.i + l.left ≡ l.place
