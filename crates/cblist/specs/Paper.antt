-- The listing of a log as document 01 has it.
use Rattle.std.specs.Prelude.{List, ◌++◌, ℕ}
use Rattle.block.specs.Paper.{Held, Given}
use Rattle.lines.specs.Paper.{marked, flat}
use Rattle.logs.specs.Paper.{listing}

-- 01 cblist: a block's number, the intake's answer and the octets received, with a space between them and the line's end
abbrev pub line : ℕ → ℕ → ℕ → List (List ℕ)
line n answer received = marked n 32 ++ (marked answer 32 ++ marked received 10)

-- 01 cblist: the line of a block's answer
abbrev pub line_of : ℕ → Given → List ℕ
line_of n g = flat (line n g.number g.received)

-- 01 cblist: the lines of pieces taken in order from a state, the first of them with number n
abbrev pub lines : Held → ℕ → List (List ℕ) → List ℕ
lines h n ps = listing line_of h n ps
