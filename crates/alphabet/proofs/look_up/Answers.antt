-- `alphabet::look_up` meets its contract: each row passed has another key.
use Rattle.laws.proofs.Base.{sym, ◌∙◌, [], ◌-◌, arith}
use Rattle.laws.proofs.Search.{lookup_next, lookup_here, lookup_end}
use Rattle.alphabet.specs.Inner.{column}
use Rattle.alphabet.proofs.look_up.Goals as goal

pub returns-then-row-by : goal.returns-then-row-by
returns-then-row-by c =
    let l = c.loop-row in
    let a = c.args in
    sym (l.invariant ∙ lookup_here (column a.by) (column (1 - a.by)) a.key a.other [] a.rows.now l.row-index c.loop-row-test.true c.if-row-by.true)

pub loop-row-preserved : goal.loop-row-preserved
loop-row-preserved c =
    let l = c.loop-row in
    let a = c.args in
    l.invariant ∙ lookup_next (column a.by) (column (1 - a.by)) a.key a.other [] a.rows.now l.row-index c.loop-row-test.true c.if-row-by.false

pub returns : goal.returns
returns c =
    let l = c.loop-row in
    let a = c.args in
    sym (l.invariant ∙ lookup_end (column a.by) (column (1 - a.by)) a.key a.other a.rows.now l.row-index (omega arith))
