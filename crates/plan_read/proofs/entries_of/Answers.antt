-- `plan_read::entries_of` meets its contract. The invariant: the entries so far stand at the front, and the rest is optional.
use Rattle.laws.proofs.Base.{sym, ap, ◌∙◌, length, length-map, length-set, arith}
use Rattle.plan.specs.Paper.{Plan}
use Rattle.plan_read.specs.Paper.{entries_in}
use Rattle.plan.specs.Coded.{entry_of}
use Rattle.plan_read.proofs.Entries.{entries_turn}
use Rattle.plan_read.proofs.entries_of.Goals as goal

pub loop-i-init : goal.loop-i-init
unfolding entries_in
loop-i-init c =
    let unused = ap (λ (p : Plan). p.entries) c.empty_plan-unused.ensures in
    (unused, sym (length-map c.empty_plan-unused.result.entries entry_of) ∙ ap length unused)

pub loop-i-preserved : goal.loop-i-preserved
loop-i-preserved c =
    let l = c.loop-i in
    let a = c.args in (
      entries_turn a.file.now l.i l.entries c.entry_at.result (omega arith) l.invariant.0 c.entry_at.ensures,
      length-set l.entries l.i c.entry_at.result ∙ l.invariant.1,
    )
