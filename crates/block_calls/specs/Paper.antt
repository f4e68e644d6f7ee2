-- The call for C that writes blocks.
use Rattle.std.specs.Prelude.{Bool, cond, List, ℕ}
use Rattle.calls.specs.Paper.{CallLeft}
use Rattle.block.specs.Paper.{Kind, page, schedule}
use Rattle.block_writer.specs.Paper.{BlocksLeft, written_blocks}

-- 01 Blocks: the kind, page or schedule, as C tells it
abbrev pub kind_if : Bool → Kind
kind_if isSchedule = cond isSchedule schedule page

-- 01 Blocks: the number, and the output
abbrev pub blocks_left : BlocksLeft → CallLeft
blocks_left w = record { returned = w.number; memory = w.output }

-- 01 Blocks: the block writer for C
abbrev pub blocks_call : List ℕ → Bool → ℕ → List ℕ → CallLeft
blocks_call m isSchedule used out = blocks_left (written_blocks m (kind_if isSchedule) used out)
