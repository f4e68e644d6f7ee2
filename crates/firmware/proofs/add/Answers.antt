-- A block before the last is kept, and the last one hands the message out.
use Rattle.laws.proofs.Base.{◌∙◌}
use Rattle.firmware.specs.Paper.{held_in}
use Rattle.firmware.proofs.Lent.{taken_over, handed_over, taken_some}
use Rattle.firmware.proofs.add.Goals as goal

pub returns-then-not-last : goal.returns-then-not-last
returns-then-not-last c = taken_over c.args.last (held_in c.args.state.now) c.args.piece.now c.args.output.now _ c.if-not-last.true c.put.ensures

pub hand_out-requires : goal.hand_out-requires
hand_out-requires c = taken_some (held_in c.args.state.now) c.args.piece.now _ c.put.ensures

pub returns : goal.returns
returns c =
    c.hand_out.ensures ∙ handed_over c.args.last (held_in c.args.state.now) c.args.piece.now c.args.output.now _ c.if-not-last.false c.put.ensures
