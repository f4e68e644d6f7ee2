-- Calls that meet the contract of `slots_calls` return the same number and leave the same memory.
use Rattle.laws.proofs.Base.{List, ℕ}
use Rattle.calls.specs.Claims.{Settles}
use Rattle.calls.proofs.Settled.{settles}
use Rattle.slots_calls.specs.Paper.{slots_call}

pub determined_cb_slots : (m : List ℕ) (received : ℕ) (o : List ℕ) → Settles (slots_call m received o)
determined_cb_slots m received o = settles (slots_call m received o)
