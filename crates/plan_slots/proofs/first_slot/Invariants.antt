-- `plan_slots::first_slot` meets its contract. The invariant: the answer is that of the search among the marks ahead.
use Rattle.laws.proofs.Base.{◌≡◌, ◌+◌, eqb, drop}
use Rattle.laws.specs.Search.{first_from}
use Rattle.plan_slots.proofs.first_slot.Given as goal

abbrev pub invariant-loop-i : goal.invariant-loop-i
invariant-loop-i l = first_from (eqb l.mark) 1 l.marks ≡ first_from (eqb l.mark) (l.i + 1) (drop l.i l.marks)
