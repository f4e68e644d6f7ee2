-- The code's values as document 01's numbers and lists.
use Rattle.std.specs.Prelude.{Result, Ok, Err}
use Rattle.refusals.specs.declared.Refusal.{Refusal}
use Rattle.refusals.specs.Number.{number_of}
use Rattle.schedule.specs.declared.Description.{Description}
use Rattle.schedule.specs.declared.Description.TheVariants.{First, Repeat, Optional, Advised}
use Rattle.schedule.specs.declared.Slot.{Slot}
use Rattle.schedule.specs.declared.Span.{Span}
use Rattle.schedule.specs.Paper.{Told, first, again, optional, advised, Shown, Read, unread}

-- the four kinds of description
abbrev pub told_of : Description → Told
told_of (First x) = first x
told_of (Repeat n) = again n
told_of Optional = optional
told_of Advised = advised

abbrev pub shown_of : Slot → Shown
shown_of s = record { new = s.new; told = told_of s.description }

-- 0 with Begin and End, or the refusal's number
abbrev pub read_of : Result Span Refusal → Read
read_of (Ok s) = record { number = 0; begin = s.begin; end = s.end }
read_of (Err r) = unread (number_of r)
