-- The code's answer as the writer's numbers and output.
use Rattle.std.specs.Prelude.{List, ℕ, Result, Ok, Err}
use Rattle.refusals.specs.Number.{number_of}
use Rattle.sender_message.specs.Paper.{unwritten}
use Rattle.plan.specs.declared.Fault.{Fault}
use Rattle.sender.specs.Paper.{ScheduleLeft}

-- an answer and the output: the used octets, or the refusal's number and the entry that comes with it
abbrev pub sending_of : Result ℕ Fault → List ℕ → ScheduleLeft
sending_of (Ok n) o = record { left = record { number = 0; used = n; output = o }; entry = 0 }
sending_of (Err f) o = record { left = unwritten o (number_of f.refusal); entry = f.entry }
