-- The number of each refusal.
use Rattle.std.specs.Prelude.{ℕ}
use Rattle.refusals.specs.declared.Refusal.{Refusal}
use Rattle.refusals.specs.declared.Refusal.TheVariants.{PieceLength, Discriminator, ReservedCode, NullCode, NotNext, StateImproper, TextLength, NotInAlphabet}
use Rattle.refusals.specs.declared.Refusal.TheVariants.{EndsInCr, Scheme, PageParameter, OutputLength, MessageLength, UsedOctets, ReceivedOctets}
use Rattle.refusals.specs.declared.Refusal.TheVariants.{ScheduleType, BeginOrEnd, NewPastEnd, DescriptionPastReceived, RepeatOfNoFirst, PlanMark}
use Rattle.refusals.specs.declared.Refusal.TheVariants.{PlanVersion, PlanLength, DescriptionsTooLong, PlanEmpty, PlanKind, PlanStray, Untrue, SlotNumber, WantedCount, PageOverTotal}

-- 01 Numbers given; 02 No. 1 for 36 and 37, No. 3 for 50
abbrev pub number_of : Refusal → ℕ
number_of PieceLength = 2
number_of Discriminator = 3
number_of ReservedCode = 4
number_of NullCode = 5
number_of NotNext = 6
number_of StateImproper = 8
number_of TextLength = 10
number_of NotInAlphabet = 11
number_of EndsInCr = 12
number_of Scheme = 13
number_of PageParameter = 14
number_of OutputLength = 15
number_of MessageLength = 16
number_of UsedOctets = 17
number_of ReceivedOctets = 18
number_of ScheduleType = 20
number_of BeginOrEnd = 21
number_of NewPastEnd = 22
number_of DescriptionPastReceived = 23
number_of RepeatOfNoFirst = 24
number_of PlanMark = 30
number_of PlanVersion = 31
number_of PlanLength = 32
number_of DescriptionsTooLong = 34
number_of PlanEmpty = 35
number_of PlanKind = 36
number_of PlanStray = 37
number_of Untrue = 40
number_of SlotNumber = 41
number_of WantedCount = 42
number_of PageOverTotal = 50
