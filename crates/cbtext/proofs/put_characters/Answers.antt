-- `cbtext::put_characters` meets its contract. The invariant: the characters so far are put.
use Rattle.laws.proofs.Base.{refl, ◌∙◌, arith}
use Rattle.lines.specs.Paper.{all_behind}
use Rattle.cbtext.specs.Paper.{character}
use Rattle.cbtext.proofs.Characters.{each_turn, each_end}
use Rattle.cbtext.proofs.put_characters.Goals as goal

pub loop-point-init : goal.loop-point-init
unfolding all_behind
loop-point-init c = (refl, refl)

pub loop-point-preserved : goal.loop-point-preserved
loop-point-preserved c =
    let so_far = c.loop-point.invariant in
    (each_turn character _ _ _ _ so_far.0 c.loop-point-test.true c.put_character.ensures.put, c.put_character.ensures.same ∙ so_far.1)

pub returns-clause-put : goal.returns-clause-put
returns-clause-put c = each_end character _ _ _ _ c.loop-point.invariant.0 (omega (arith, c.loop-point-test.false))
