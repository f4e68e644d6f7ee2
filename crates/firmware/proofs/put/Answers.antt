-- The content lands where the message's 2B begins, and one block more is taken.
use Rattle.laws.proofs.Base.{◌∙◌}
use Rattle.block.proofs.Filled.{rest_of}
use Rattle.firmware.proofs.Lent.{put_content}
use Rattle.std.proofs.Common.{rules}
use Rattle.firmware.proofs.put.Goals as goal

pub returns : goal.returns
returns c =
    put_content c.args.state.now c.args.piece.now _ _ (search rules) c.requires (c.copy.ensures ∙ rest_of 1 c.args.piece.now) c.copy-2.ensures
