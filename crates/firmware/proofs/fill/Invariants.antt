-- The invariant: the octets so far are 2B.
use Rattle.std.proofs.Common.{◌≡◌, take, replicate}
use Rattle.firmware.proofs.fill.Given as goal

abbrev pub invariant-loop-octet : goal.invariant-loop-octet
invariant-loop-octet l = take l.octet-index l.memory ≡ replicate l.octet-index 0x2b
