-- `plan_slots::first_slot` meets its contract. The invariant: the answer is that of the search among the marks ahead.
use Rattle.laws.proofs.Base.{sym, ◌∙◌, ◌+◌, eqb, get_or, arith, eq-eqb, ne_eqb}
use Rattle.laws.proofs.Search.{first_next, first_here, first_end}
use Rattle.plan_slots.proofs.first_slot.Goals as goal

pub returns-then-other-mark : goal.returns-then-other-mark
returns-then-other-mark c =
    let a = c.args in
    let l = c.loop-i in
    sym
    (l.invariant
    ∙ first_here (eqb a.mark) 0 (l.i + 1) a.marks.now l.i (omega arith) (eq-eqb a.mark (get_or a.marks.now l.i 0) (sym c.if-other-mark.true)))

pub loop-i-preserved : goal.loop-i-preserved
loop-i-preserved c =
    let a = c.args in
    let l = c.loop-i in
    l.invariant
    ∙ first_next (eqb a.mark) 0 (l.i + 1) a.marks.now l.i (omega arith)
    (ne_eqb a.mark (get_or a.marks.now l.i 0) (λ e. c.if-other-mark.false (sym e)))

pub returns : goal.returns
returns c =
    let a = c.args in
    let l = c.loop-i in
    sym (l.invariant ∙ first_end (eqb a.mark) (l.i + 1) a.marks.now l.i (omega arith))
