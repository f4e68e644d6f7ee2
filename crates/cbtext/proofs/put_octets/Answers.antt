-- `cbtext::put_octets` meets its contract. The invariant: the octets so far are put.
use Rattle.laws.proofs.Base.{refl, ◌∙◌, arith}
use Rattle.lines.specs.Paper.{hexadecimal, all_behind}
use Rattle.cbtext.proofs.Characters.{each_turn, each_end}
use Rattle.cbtext.proofs.put_octets.Goals as goal

pub loop-octet-init : goal.loop-octet-init
unfolding all_behind
loop-octet-init c = (refl, refl)

pub loop-octet-preserved : goal.loop-octet-preserved
loop-octet-preserved c =
    let so_far = c.loop-octet.invariant in
    (each_turn (hexadecimal 2) _ _ _ _ so_far.0 c.loop-octet-test.true c.put_hex.ensures.put, c.put_hex.ensures.same ∙ so_far.1)

pub returns-clause-put : goal.returns-clause-put
returns-clause-put c = each_end (hexadecimal 2) _ _ _ _ c.loop-octet.invariant.0 (omega (arith, c.loop-octet-test.false))
