-- The blocks are written one after the other.
use Rattle.laws.proofs.Base.{◌≡◌, refl, ◌∙◌, arith}
use Rattle.std.proofs.Common.{rules}
use Rattle.block_writer.specs.Paper.{blocks}
use Rattle.block.specs.Coded.{kind_of}
use Rattle.block_writer.proofs.Write.{write_turn, written_all}
use Rattle.block_writer.proofs.put_blocks.Goals as goal

pub loop-i-init : goal.loop-i-init
unfolding blocks
loop-i-init c = refl

pub loop-i-preserved : goal.loop-i-preserved
loop-i-preserved c =
    write_turn (kind_of c.args.kind) c.args.used c.args.message.now (search rules) c.loop-i.i c.args.out.now c.loop-i.out (omega arith) (omega arith)
    c.loop-i.invariant c.block_type.result c.copy.new.to c.block_type.ensures c.copy.ensures

pub returns : goal.returns
returns c =
    let all : c.loop-i.i ≡ 4 = omega arith in
    rw all at c.loop-i.invariant ∙ written_all (kind_of c.args.kind) c.args.used c.args.message.now (search rules) c.args.out.now (search rules)
