-- `cbwrite::begin_of` meets its contract. The invariant: the number so far is capped, and the octets left are read on from it.
use Rattle.laws.proofs.Base.{◌≡◌, ◌≤◌, drop}
use Rattle.cbwrite.specs.Inner.{typed, typed_on}
use Rattle.cbwrite.proofs.begin_of.Given as goal

abbrev pub invariant-loop-digit : goal.invariant-loop-digit
invariant-loop-digit l = (l.number ≤ 1000) × (typed l.digits ≡ typed_on l.number (drop l.digit-index l.digits))
