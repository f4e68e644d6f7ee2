-- `board::numbers_of` meets its contract. The invariant: the first i numbers are those of the identifiers.
use Rattle.laws.proofs.Base.{◌≡◌, ◌∙◌, arith, length, length-set}
use Rattle.board.proofs.Filled.{numbers_turn}
use Rattle.std.proofs.Common.{rules}
use Rattle.board.proofs.numbers_of.Goals as goal

pub loop-i-preserved : goal.loop-i-preserved
loop-i-preserved c =
    let l = c.loop-i in
    let ids = c.args.ids in
    let size : length ids ≡ 64 = search rules in
    (length-set l.numbers l.i _ ∙ l.invariant.0, numbers_turn ids l.numbers l.i size l.invariant.1 (omega arith))
