-- `board::wanted_of` meets its contract. The invariant: the first i identifiers are those of the list, and the rest is 0.
use Rattle.laws.proofs.Base.{◌≡◌, ◌++◌, ◌-◌, length, take, replicate}
use Rattle.board.specs.Coded.{ids_of}
use Rattle.board.proofs.wanted_of.Given as goal

abbrev pub invariant-loop-i : goal.invariant-loop-i
invariant-loop-i l = (ids_of l.ids ≡ take l.i l.list ++ replicate (64 - l.i) 0) × (length l.ids ≡ 64)
