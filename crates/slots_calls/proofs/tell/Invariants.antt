-- `slots_calls::tell` meets its contract: the slots before the loop's are told.
use Rattle.laws.proofs.Base.{◌≡◌, length, take}
use Rattle.laws.specs.Upto.{each}
use Rattle.slots_calls.specs.Paper.{packed_slot}
use Rattle.slots_calls.proofs.tell.Given as goal

abbrev pub invariant-loop-i : goal.invariant-loop-i
invariant-loop-i l = (length l.slots ≡ 48) × (take l.i l.slots ≡ each (packed_slot l.message) l.i)
