-- The invariant: the blocks so far stand at the front, and the rest is as it was.
use Rattle.laws.proofs.Base.{◌≡◌, ◌++◌, ◌*◌, drop}
use Rattle.block_writer.specs.Paper.{blocks}
use Rattle.block.specs.Coded.{kind_of}
use Rattle.block_writer.proofs.put_blocks.Given as goal

abbrev pub invariant-loop-i : goal.invariant-loop-i
invariant-loop-i l = l.out ≡ blocks (kind_of l.kind) l.used l.message l.i ++ drop (23 * l.i) l.initial.out
