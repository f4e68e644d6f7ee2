-- `plan_slots::said_by_marks` meets its contract. The invariant: the slots passed are said by the searches for their marks.
use Rattle.plan.specs.Coded.{entries_of}
use Rattle.plan_slots.specs.Inner.{searched, Says}
use Rattle.plan_slots.proofs.said_by_marks.Given as goal

abbrev pub invariant-loop-i : goal.invariant-loop-i
invariant-loop-i l = Says (searched (entries_of l.entries) l.current l.previous) l.planned l.i
