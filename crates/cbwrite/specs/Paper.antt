-- What the program writes: the blocks of a schedule message.
use Rattle.std.specs.Prelude.{cond, List, ℕ, eqb, replicate}
use Rattle.block.specs.Paper.{schedule}
use Rattle.block_writer.specs.Paper.{BlocksLeft, written_blocks}
use Rattle.plan.specs.Paper.{Plan}
use Rattle.sender_message.specs.Paper.{MessageLeft}
use Rattle.sender.specs.Paper.{write}

-- 01 Blocks: the four blocks of a message that was written, in place of the lent output; one that was refused leaves it as it was
abbrev pub sent_by : MessageLeft → List ℕ → BlocksLeft
sent_by w o = cond (eqb w.number 0) (written_blocks w.output schedule w.used o) (record { number = w.number; output = o })

-- 01 The plan, our writer: the blocks of the schedule message of the current plan c, beside the previous plan p, with Begin b
unfoldable pub composed : Plan → Plan → ℕ → List ℕ → BlocksLeft
composed c p b o = sent_by (write c p b (replicate 88 0)) o
