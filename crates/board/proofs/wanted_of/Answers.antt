-- `board::wanted_of` meets its contract. The invariant: the first i identifiers are those of the list, and the rest is 0.
use Rattle.laws.proofs.Base.{◌∙◌, ◌<◌, arith, length, length-set, length-take, get_or-take}
use Rattle.board.proofs.Filled.{ids_turn, ids_end}
use Rattle.board.proofs.wanted_of.Goals as goal

pub loop-i-preserved : goal.loop-i-preserved
loop-i-preserved c =
    let l = c.loop-i in
    let a = c.args in
    let low : l.i < c.min.result = omega (arith, c.min.ensures, c.loop-i-test.true, length-take c.min.result a.list.now) in (
      ids_turn a.list.now l.ids l.i l.invariant.0 _ (get_or-take c.min.result a.list.now l.i 0 low) (omega arith) (omega arith),
      length-set l.ids l.i _ ∙ l.invariant.1,
    )

pub returns : goal.returns
returns c =
    let a = c.args in
    let l = c.loop-i in
    let ids = ids_end a.list.now l.ids l.i l.invariant.0 (omega (arith, c.min.ensures, c.loop-i-test.false, length-take c.min.result a.list.now)) in
    λ j. record { count = length a.list.now; ids = ids j }
