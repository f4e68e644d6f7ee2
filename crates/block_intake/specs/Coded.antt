-- The intake's states and answers as document 01's numbers and lists.
use Rattle.std.specs.Prelude.{Result, Ok, Err, ℕ}
use Rattle.refusals.specs.declared.Refusal.{Refusal}
use Rattle.refusals.specs.Number.{number_of}
use Rattle.block.specs.Paper.{Held, Given, blank}
use Rattle.block.specs.Inner.{state_with}
use Rattle.block_intake.specs.declared.State.{State}
use Rattle.block_intake.specs.declared.Answer.{Answer}
use Rattle.block_intake.specs.declared.Answer.TheVariants.{Page, Schedule, Taken}
use Rattle.block_intake.specs.declared.Reply.{Reply}

-- a state in numbers
abbrev pub held_of : State → Held
held_of s = state_with s.kind s.taken s.octets

-- 0 for a page complete, 7 for a schedule, 1 for a block taken, or the refusal's number
abbrev pub answer_of : Result Answer Refusal → ℕ
answer_of (Ok Page) = 0
answer_of (Ok Schedule) = 7
answer_of (Ok Taken) = 1
answer_of (Err r) = number_of r

-- an answer with its octets and the state afterwards
abbrev pub given_of : Reply → Given
given_of r = record { number = answer_of r.answer; received = r.received; octets = r.octets; next = held_of r.state }

-- an answer by a number alone, and the state afterwards
abbrev pub leaving : ℕ → Held → Given
leaving n h = record { number = n; received = 0; octets = blank; next = h }
