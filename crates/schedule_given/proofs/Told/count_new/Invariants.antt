-- `schedule_given::Told::count_new` meets its contract. The invariant: the number is the count of the slots passed.
use Rattle.laws.proofs.Base.{◌≡◌, true}
use Rattle.laws.specs.Upto.{count}
use Rattle.schedule.specs.Paper.{grouped}
use Rattle.schedule_given.proofs.Told.count_new.Given as goal

abbrev pub invariant-loop-i : goal.invariant-loop-i
invariant-loop-i l = l.n ≡ count (grouped l.self.message.now true) l.i
