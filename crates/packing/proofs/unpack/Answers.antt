-- `packing::unpack` meets its contract: each test that returns decides that of `unpacked_into`.
use Rattle.laws.proofs.Base.{◌∙◌, sym, arith}
use Rattle.packing.proofs.Others.{unpacked_into_lem, unpacked_kept}
use Rattle.packing.proofs.unpack.Goals as goal

pub returns-then-septets-octets : goal.returns-then-septets-octets
returns-then-septets-octets c =
    let a = c.args in
    unpacked_kept a.octets.now a.septets.now (λ e. omega (arith, c.if-septets-octets.true, e))

pub returns-then-septets-octets-2 : goal.returns-then-septets-octets-2
returns-then-septets-octets-2 c =
    let a = c.args in
    unpacked_kept a.octets.now a.septets.now (λ e. c.if-septets-octets-2.true (omega (arith, e)))

pub returns : goal.returns
returns c =
    let a = c.args in
    c.unpack_all.ensures ∙ sym (unpacked_into_lem a.octets.now a.septets.now (omega (arith, c.if-septets-octets-2.false, c.if-septets-octets.false)))
