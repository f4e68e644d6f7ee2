-- `text_reader::reading::read_each` meets its contract. The invariant: the characters up to place i are written.
use Rattle.laws.proofs.Base.{refl, ◌∙◌, ◌<◌, arith, length, length-set}
use Rattle.text_reader.proofs.Nexts.{reached_start, reached_escaped, reached_plain, reached_end}
use Rattle.text_reader.proofs.reading.read_each.Goals as goal

pub loop-i-init : goal.loop-i-init
loop-i-init c = (refl, reached_start _ _)

pub loop-i-preserved-then-next : goal.loop-i-preserved-then-next
loop-i-preserved-then-next c =
    let room : c.loop-i.at < length c.loop-i.text = let l = c.loop-i in let p = c.requires in omega (arith, p, l.invariant.0, l.invariant.1.few, c.loop-i-test.true) in
    let l = c.loop-i in
    (length-set l.text l.at _ ∙ l.invariant.0, reached_escaped _ l.text l.at l.floor l.i _ _ _ l.invariant.1 c.character-next.ensures room c.if-next.true)

pub loop-i-preserved : goal.loop-i-preserved
loop-i-preserved c =
    let room : c.loop-i.at < length c.loop-i.text = let l = c.loop-i in let p = c.requires in omega (arith, p, l.invariant.0, l.invariant.1.few, c.loop-i-test.true) in
    let l = c.loop-i in
    (length-set l.text l.at _ ∙ l.invariant.0, reached_plain _ l.text l.at l.floor l.i _ _ _ l.invariant.1 c.character-next.ensures room c.if-next.false)

pub returns : goal.returns
returns c =
    let l = c.loop-i in
    reached_end _ l.text l.at l.floor l.i _ l.invariant.1 (omega (arith, c.loop-i-test.false)) c.without_crs.ensures
