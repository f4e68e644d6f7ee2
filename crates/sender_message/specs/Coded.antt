-- The code's values as document 01's numbers and lists.
use Rattle.std.specs.Prelude.{List, ℕ, get_or, Result, Ok, Err}
use Rattle.refusals.specs.Number.{number_of}
use Rattle.refusals.specs.declared.Refusal.{Refusal}
use Rattle.schedule.specs.declared.Description.{Description}
use Rattle.schedule.specs.declared.Slot.{Slot}
use Rattle.schedule.specs.Paper.{Told, Shown}
use Rattle.schedule.specs.Coded.{told_of}
use Rattle.schedule.specs.Inner.{zeroed}
use Rattle.sender_message.specs.Paper.{MessageLeft, in15}

-- the writer's answer and the output that it leaves
abbrev pub writing_of : Result ℕ Refusal → List ℕ → MessageLeft
writing_of (Ok u) o = record { number = 0; used = u; output = o }
writing_of (Err r) o = record { number = number_of r; used = 0; output = o }

-- a description as a message tells it
abbrev pub told_as : Description → Told
told_as d = in15 (told_of d)

-- what a message tells of each slot of an array
abbrev pub shown_in : List Slot → ℕ → Shown
shown_in slots i = record { new = (get_or slots i zeroed).new; told = told_as (get_or slots i zeroed).description }
