-- The invariant: the verdict is that on the octets so far.
use Rattle.std.proofs.Common.{◌≡◌, take}
use Rattle.block.specs.Paper.{all_blank}
use Rattle.block.proofs.is_blank.Given as goal

abbrev pub invariant-loop-octet : goal.invariant-loop-octet
invariant-loop-octet l = l.blank ≡ all_blank (take l.octet-index l.octets)
