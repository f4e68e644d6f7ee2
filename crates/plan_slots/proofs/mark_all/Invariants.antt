-- `plan_slots::mark_all` meets its contract. The invariant: the entries passed have their marks.
use Rattle.plan.specs.Coded.{entries_of}
use Rattle.plan_slots.specs.Inner.{Marks}
use Rattle.plan_slots.proofs.mark_all.Given as goal

abbrev pub invariant-loop-i : goal.invariant-loop-i
invariant-loop-i l = Marks l.marks (entries_of l.entries) l.i
