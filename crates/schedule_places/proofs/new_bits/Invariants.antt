-- `schedule_places::new_bits` meets its contract. The invariant: the octets so far as one number.
use Rattle.laws.proofs.Base.{◌≡◌}
use Rattle.schedule_places.proofs.Bits.{joined}
use Rattle.schedule_places.proofs.new_bits.Given as goal

abbrev pub invariant-loop-j : goal.invariant-loop-j
invariant-loop-j l = l.bits ≡ joined l.message l.j
