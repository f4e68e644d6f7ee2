-- The code's values as document 01's numbers and lists.
use Rattle.std.specs.Prelude.{map, ℕ, Option, Result, Ok, Err}
use Rattle.refusals.specs.declared.Refusal.{Refusal}
use Rattle.refusals.specs.Number.{number_of}
use Rattle.schedule_given.specs.declared.Numbered.{Numbered as NumberedCode}
use Rattle.schedule.specs.Paper.{GivenSlot}
use Rattle.schedule.specs.Coded.{shown_of}
use Rattle.schedule_given.specs.Coded.{given_of}
use Rattle.descriptions.specs.declared.Ordered.{Ordered as OrderedCode}
use Rattle.descriptions.specs.declared.Stepped.{Stepped as SteppedCode}
use Rattle.descriptions.specs.declared.Descriptions.{Descriptions}
use Rattle.descriptions.specs.Paper.{Stepped, stepped, Numbered, Ordered}

abbrev pub stepped_of : SteppedCode → Stepped
stepped_of s = record { given = given_of s.given; place = s.place }

-- 01 Schedule message: a call of the reader that keeps the lent message: what it gives, and the reader that it leaves
pub record Called : Type 0 where
  pub given : GivenSlot
  pub left : Descriptions

abbrev pub called_of : Result (Option NumberedCode) Refusal → Descriptions → Called
called_of g d = record { given = given_of g; left = d }

-- 01 Schedule message: the message and the octets received of it stay, and the place is the one that the step leaves
abbrev pub leaves : Descriptions → Stepped → Called
leaves d s = record { given = s.given; left = record { message = d.message; received = d.received; place = s.place } }

-- 01 Schedule message: the step is the one at the reader's place
abbrev pub called : Descriptions → Called
called d = leaves d (stepped d.message.now d.received d.place)

abbrev pub numbered_of : NumberedCode → Numbered
numbered_of x = record { number = x.number; shown = shown_of x.slot }

-- 0 with the number of slots given, or the refusal's number with 0
abbrev pub count_of : Result ℕ Refusal → ℕ × ℕ
count_of (Ok k) = (0, k)
count_of (Err r) = (number_of r, 0)

abbrev pub ordered_of : OrderedCode → Ordered
ordered_of o =
    record { number = (count_of o.answer).0; count = (count_of o.answer).1; given = map numbered_of o.given }
