-- Calls that meet a contract of `board_calls` return the same number.
use Rattle.laws.proofs.Base.{Bool, List, ℕ}
use Rattle.calls.specs.Claims.{SettlesNumber}
use Rattle.calls.proofs.Settled.{settles_number}
use Rattle.board_calls.specs.Paper.{decide_call}

pub determined_cb_decide : (known : Bool) (m : List ℕ) (received slot : ℕ) (wanted : List ℕ) (held : ℕ)
    → SettlesNumber (decide_call known m received slot wanted held)
determined_cb_decide known m received slot wanted held = settles_number (decide_call known m received slot wanted held)
