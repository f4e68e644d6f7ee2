-- `plan_slots::all_planned` meets its contract: the slots are said by the searches for their marks, within the counts.
use Rattle.laws.proofs.Base.{◌≡◌, length, take, length-take-le, arith}
use Rattle.plan.specs.Coded.{plan_of}
use Rattle.plan_slots.proofs.Said.{searched_said, says_all}
use Rattle.plan_slots.proofs.all_planned.Goals as goal

pub returns : goal.returns
returns c =
    let own_count : length (take c.min-count.result c.mark_all.new.marks) ≡ c.min-count.result = let marked = c.mark_all in length-take-le c.min-count.result marked.new.marks (omega (arith, marked.ensures.long, c.min-count.ensures)) in
    let a = c.args in
    says_all (plan_of a.current) (plan_of a.previous) c.said_by_marks.result _
    (searched_said (plan_of a.current) (plan_of a.previous) _ _ c.mark_all.ensures c.mark_all-2.ensures)
    (rw (own_count, c.min-count.ensures, c.min-before.ensures) at c.said_by_marks.ensures)
