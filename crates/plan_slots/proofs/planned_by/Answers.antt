-- `plan_slots::planned_by` meets its contract: an entry with a page and one without.
use Rattle.laws.proofs.Base.{◌≡◌, ◌%◌, arith, eq-eqb, ne_eqb}
use Rattle.plan_slots.specs.Inner.{said_by}
use Rattle.plan_slots.proofs.Marks.{lacks_mark}
use Rattle.plan_slots.proofs.planned_by.Goals as goal

pub returns-then-entry-ne2 : goal.returns-then-entry-ne2
unfolding said_by
returns-then-entry-ne2 c = rw (ne_eqb _ 2 c.if-entry-ne2.true) c.none_planned.ensures

pub returns : goal.returns
unfolding said_by
returns c =
    let a = c.args in
    let two : a.entry.now.kind ≡ 2 = omega arith in
    let lacks = lacks_mark a.mark a.previous.now _ c.first_slot-2.ensures in
    rw (eq-eqb a.entry.now.kind 2 two)
    (λ i. record { kind = a.entry.now.kind; low = a.entry.now.id.0 % 32768; lowest = c.first_slot.ensures i; fresh = lacks i })
