-- `collector::is_of` meets its contract: total, serial number and identifier are compared one after the other.
use Rattle.laws.proofs.Base.{arith}
use Rattle.collector.proofs.Told.{other_total, other_serial, by_identifier}
use Rattle.collector.proofs.is_of.Goals as goal

pub returns-then-collector-total_of : goal.returns-then-collector-total_of
returns-then-collector-total_of c =
    let a = c.args in
    other_total a.collector.now a.page.now _ c.total_of.ensures (λ e. omega (arith, c.if-collector-total_of.true, e))

pub returns-then-joined : goal.returns-then-joined
returns-then-joined c =
    let a = c.args in
    other_serial a.collector.now a.page.now _ c.total_of.ensures (omega (arith, c.if-collector-total_of.false))
    _ _ c.joined.ensures c.joined-2.ensures c.if-joined.true

pub returns : goal.returns
returns c =
    let a = c.args in
    by_identifier a.collector.now a.page.now _ c.total_of.ensures (omega (arith, c.if-collector-total_of.false))
    _ _ c.joined.ensures c.joined-2.ensures c.if-joined.false
    _ _ c.joined-3.ensures c.joined-4.ensures
