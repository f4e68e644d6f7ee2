-- Calls that meet the contract of `held_calls` return the same number.
use Rattle.laws.proofs.Base.{Bool, List, ℕ}
use Rattle.calls.specs.Claims.{SettlesNumber}
use Rattle.calls.proofs.Settled.{settles_number}
use Rattle.held_calls.specs.Paper.{enter_call}

pub determined_cb_enter : (known : Bool) (m : List ℕ) (received slot held : ℕ) → SettlesNumber (enter_call known m received slot held)
determined_cb_enter known m received slot held = settles_number (enter_call known m received slot held)
