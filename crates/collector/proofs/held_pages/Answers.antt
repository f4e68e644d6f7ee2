-- The tests behind the loop need no answer: the invariant says what they make of total and count.
use Rattle.laws.proofs.Base.{refl, sym, ◌∙◌, ◌+◌, arith}
use Rattle.laws.specs.Upto.{some_below, count}
use Rattle.collector.proofs.Proper.{told_at, wrong_past, wrong_received, pages_wrong, turn_held, turn_missing}
use Rattle.collector.proofs.held_pages.Goals as goal
use Rattle.collector.proofs.held_pages.Goals.{then-received-ne0+else-total-i+else-not-whole_blocks, else-received-ne0}

pub loop-i-init : goal.loop-i-init
unfolding some_below count
loop-i-init c = (refl, refl, omega arith, λ h. absurd (omega arith))

pub returns-then-total-i : goal.returns-then-total-i
returns-then-total-i c =
    let m = c.args.collector.now in
    pages_wrong m c.loop-i.i (omega arith) (wrong_past m c.loop-i.i c.if-received-ne0.true c.if-total-i.true)

pub returns-then-not-whole_blocks : goal.returns-then-not-whole_blocks
returns-then-not-whole_blocks c =
    let m = c.args.collector.now in
    pages_wrong m c.loop-i.i (omega arith) (wrong_received m c.loop-i.i c.if-received-ne0.true (sym c.whole_blocks.ensures ∙ c.if-not-whole_blocks.true))

pub loop-i-preserved : goal.loop-i-preserved
loop-i-preserved c =
    let l = c.loop-i in
    let m = c.args.collector.now in
    elim c.if-received-ne0.branch [
      | then-received-ne0+else-total-i+else-not-whole_blocks w ↦
          let t = turn_held m l.i l.count l.invariant.0 l.invariant.1 w.if-received-ne0.true w.if-total-i.false (sym w.whole_blocks.ensures ∙ w.if-not-whole_blocks.false) in
          (t.0, w.count-is ∙ t.1, omega (arith, w.count-is), told_at m _ (l.i + 1) (omega arith) t.0 (w.count-is ∙ t.1))
      | else-received-ne0 w ↦
          let t = turn_missing m l.i l.count l.invariant.0 l.invariant.1 (omega (arith, w.if-received-ne0.false)) in
          (t.0, w.count-is ∙ t.1, omega (arith, w.count-is), told_at m _ (l.i + 1) (omega arith) t.0 (w.count-is ∙ t.1))
    ]
