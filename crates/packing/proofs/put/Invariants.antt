-- `packing::put` meets its contract: after so many turns the first digits are written, and the rest of the number is left.
use Rattle.laws.proofs.Base.{◌≡◌, ◌++◌, ◌/◌, ◌^◌, length, drop}
use Rattle.laws.specs.Radix.{digits}
use Rattle.packing.proofs.put.Given as goal

abbrev pub invariant-loop-digit : goal.invariant-loop-digit
invariant-loop-digit l = (length l.out ≡ length l.initial.out) × (l.rest ≡ l.word / l.base ^ l.digit-index) × (l.out ≡ digits l.base l.digit-index l.word ++ drop l.digit-index l.initial.out)
