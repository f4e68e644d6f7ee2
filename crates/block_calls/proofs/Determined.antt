-- Calls that meet the contract of `block_calls` return the same number and leave the same memory.
use Rattle.laws.proofs.Base.{Bool, List, ℕ}
use Rattle.calls.specs.Claims.{Settles}
use Rattle.calls.proofs.Settled.{settles}
use Rattle.block_calls.specs.Paper.{blocks_call}

pub determined_cb_write_blocks : (m : List ℕ) (k : Bool) (used : ℕ) (o : List ℕ) → Settles (blocks_call m k used o)
determined_cb_write_blocks m k used o = settles (blocks_call m k used o)
