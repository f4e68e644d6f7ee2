-- `packing::number` meets its contract: the sum is the number of the digits from i on.
use Rattle.laws.proofs.Base.{◌≡◌, drop}
use Rattle.laws.specs.Radix.{value}
use Rattle.packing.proofs.number.Given as goal

abbrev pub invariant-loop-i : goal.invariant-loop-i
invariant-loop-i l = l.sum ≡ value l.base (drop l.i l.list)
