-- Calls that meet a contract of `plan_calls` return the same number and leave the same memory.
use Rattle.laws.proofs.Base.{List, ℕ}
use Rattle.calls.specs.Claims.{Settles, SettlesNumber}
use Rattle.calls.proofs.Settled.{settles, settles_number}
use Rattle.plan_calls.specs.Paper.{plan_call, write_schedule_call, check_schedule_call, check_slots_call}

pub determined_cb_read_plan : (f : List ℕ) → SettlesNumber (plan_call f)
determined_cb_read_plan f = settles_number (plan_call f)

pub determined_cb_write_schedule : (c p : List ℕ) (begin : ℕ) (o : List ℕ) → Settles (write_schedule_call c p begin o)
determined_cb_write_schedule c p begin o = settles (write_schedule_call c p begin o)

pub determined_cb_check_schedule : (c p m : List ℕ) (received : ℕ) → SettlesNumber (check_schedule_call c p m received)
determined_cb_check_schedule c p m received = settles_number (check_schedule_call c p m received)

pub determined_cb_check_slots : (c p m : List ℕ) (received : ℕ) (w : List ℕ) → Settles (check_slots_call c p m received w)
determined_cb_check_slots c p m received w = settles (check_slots_call c p m received w)
