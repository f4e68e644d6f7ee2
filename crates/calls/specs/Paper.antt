-- How a call for C hands back several numbers, and lent memory.
use Rattle.std.specs.Prelude.{Bool, cond, List, ℕ, ◌+◌, ◌*◌}

-- DECISIONS, Several numbers in one: what a call leaves: the number returned, and the memory that it was lent to write
pub record CallLeft : Type 0 where
  pub returned : ℕ
  pub memory : List ℕ

-- DECISIONS, Several numbers in one: a number of the table, and another above its eight bits
abbrev pub in_one : ℕ → ℕ → ℕ
in_one number other = number + 256 * other

-- DECISIONS, Several numbers in one: two numbers in one, and the memory
abbrev pub left_with : ℕ → ℕ → List ℕ → CallLeft
left_with number other memory = record { returned = in_one number other; memory = memory }

-- DECISIONS, Several numbers in one: a new bit, or read or skip, as a number
abbrev pub bit_of : Bool → ℕ
bit_of b = cond b 1 0
