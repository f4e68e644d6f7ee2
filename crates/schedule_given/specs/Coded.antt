-- The code's answer as document 01's.
use Rattle.std.specs.Prelude.{Option, None, Some, Result, Ok, Err}
use Rattle.refusals.specs.declared.Refusal.{Refusal}
use Rattle.refusals.specs.Number.{number_of}
use Rattle.schedule.specs.Paper.{GivenSlot, next, no_more, refusal}
use Rattle.schedule.specs.Coded.{shown_of}
use Rattle.schedule_given.specs.declared.Numbered.{Numbered}

-- a refusal by its number
abbrev pub given_of : Result (Option Numbered) Refusal → GivenSlot
given_of (Ok (Some x)) = next x.number (shown_of x.slot)
given_of (Ok None) = no_more
given_of (Err r) = refusal (number_of r)
