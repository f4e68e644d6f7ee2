-- The code's schedules as document 01's.
use Rattle.std.specs.Prelude.{ℕ, Bool, List}
use Rattle.board_held.specs.declared.Schedule.{Schedule as ScheduleCode}
use Rattle.board_held.specs.Paper.{Schedule}

abbrev pub schedule_of : ScheduleCode → Schedule
schedule_of s = record { known = s.known; message = s.message; received = s.received }

-- a schedule whose message is lent
abbrev pub lent_schedule : Bool → List ℕ → ℕ → Schedule
lent_schedule known m received = record { known = known; message = m; received = received }
