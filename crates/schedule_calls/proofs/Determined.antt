-- Answers that meet a contract of `schedule_calls` are equal.
use Rattle.laws.proofs.Base.{List, ℕ}
use Rattle.calls.specs.Claims.{SettlesNumber}
use Rattle.calls.proofs.Settled.{settles_number}
use Rattle.schedule.specs.declared.Description.{Description}
use Rattle.schedule.specs.Coded.{told_of}
use Rattle.schedule_calls.specs.Paper.{code_of, schedule_call, description_call}

pub determined_code : (d : Description) → SettlesNumber (code_of (told_of d))
determined_code d = settles_number (code_of (told_of d))

pub determined_cb_read_schedule : (m : List ℕ) (received : ℕ) → SettlesNumber (schedule_call m received)
determined_cb_read_schedule m received = settles_number (schedule_call m received)

pub determined_cb_description : (m : List ℕ) (received place : ℕ) → SettlesNumber (description_call m received place)
determined_cb_description m received place = settles_number (description_call m received place)
