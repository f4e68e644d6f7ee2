-- `board::numbers_of` meets its contract. The invariant: the first i numbers are those of the identifiers.
use Rattle.laws.proofs.Base.{◌≡◌, ◌++◌, ◌-◌, length, take, replicate}
use Rattle.board.specs.Coded.{ids_of}
use Rattle.board.proofs.numbers_of.Given as goal

abbrev pub invariant-loop-i : goal.invariant-loop-i
invariant-loop-i l = (length l.numbers ≡ 64) × (l.numbers ≡ take l.i (ids_of l.fn.ids) ++ replicate (64 - l.i) 0)
