-- What each call for C packs into one number comes out of it again by the divisions and remainders of the header's macros.
use Rattle.std.specs.Prelude.{Bool, cond, not, List, [], ◌∷◌, ◌≡◌, ℕ, ◌/◌, ◌%◌, ◌≤◌, ◌<◌, eqb, length, get_or}
use Rattle.laws.specs.Radix.{Below}
use Rattle.laws.specs.Ruled.{ruled}
use Rattle.calls.specs.Paper.{bit_of}
use Rattle.calls.specs.Claims.{TakenApart}
use Rattle.block.specs.Paper as block
use Rattle.page.specs.Paper.{Heading}
use Rattle.plan.specs.Claims.{Naming, LowestBad}
use Rattle.plan_read.specs.Paper.{listed, read_plan}
use Rattle.schedule.specs.Paper.{end, new, tells, again, Read, read, Shown, next, refusal, given}
use Rattle.text.specs.Paper.{written_page, reading}
use Rattle.firmware.specs.Paper.{held_in, intake_call}
use Rattle.text_calls.specs.Paper.{write_call, read_call}
use Rattle.page_calls.specs.Paper.{headed, header_call}
use Rattle.schedule_calls.specs.Paper.{code_of, schedule_call, description_call}
use Rattle.slots_calls.specs.Paper.{slots_call}
use Rattle.plan_calls.specs.Paper.{beside_number, plan_call, written_from, write_schedule_call, checked_beside, check_schedule_call, slots_beside_files, check_slots_call}
use Rattle.board_calls.specs.Paper.{decided_for, decide_call}

-- 01 Intake, Order: the intake's answer to a call before it is packed: a wrong length of output or state is a refusal like the others;
-- of this answer only the number and the octets received are packed
abbrev pub answered_call : List ℕ → List ℕ → List ℕ → block.Given
answered_call s p o = ruled block.refusal ((not (eqb (length o) 88), 15) ∷ (not (eqb (length s) 90), 8) ∷ []) (block.step (held_in s) p)

-- 01 Intake: answer and octets received, of cb_intake
abbrev pub UnpackedIntake : Type 0
UnpackedIntake = (s p o : List ℕ) → TakenApart (intake_call s p o).returned (answered_call s p o).number (answered_call s p o).received

-- DECISIONS, Several numbers in one: number and used octets, of cb_write_text
abbrev pub UnpackedWriteText : Type 0
UnpackedWriteText = (h : Heading) (t p : List ℕ) → TakenApart (write_call h t p).returned (written_page h t p).number (written_page h t p).used

-- DECISIONS, Several numbers in one: number and characters, of cb_read_text
abbrev pub UnpackedReadText : Type 0
UnpackedReadText = (p : List ℕ) (n : ℕ) (t : List ℕ) → TakenApart (read_call p n t).returned (reading p n t).number (reading p n t).characters

-- DECISIONS, Several numbers in one: number, and count or entry, of cb_read_plan
abbrev pub UnpackedReadPlan : Type 0
UnpackedReadPlan = (f : List ℕ) → TakenApart (plan_call f) (read_plan f).number (beside_number (read_plan f).number (read_plan f).plan.count (read_plan f).entry)

-- DECISIONS, Several numbers in one: number, and used octets or entry, of cb_write_schedule
abbrev pub UnpackedWriteSchedule : Type 0
UnpackedWriteSchedule =
    (c p : List ℕ) (b : ℕ) (o : List ℕ) → let w = written_from c p b o in
    TakenApart (write_schedule_call c p b o).returned w.left.number (beside_number w.left.number w.left.used w.entry)

-- DECISIONS, Several numbers in one: number, and slot or entry, of cb_check_schedule
abbrev pub UnpackedCheckSchedule : Type 0
UnpackedCheckSchedule =
    (c p m : List ℕ) (n : ℕ) → TakenApart (check_schedule_call c p m n) (checked_beside c p m n).number (checked_beside c p m n).slot

-- DECISIONS, Several numbers in one: and of cb_check_slots
abbrev pub UnpackedCheckSlots : Type 0
UnpackedCheckSlots =
    (c p m : List ℕ) (n : ℕ) (w : List ℕ) → let k = (slots_beside_files c p m n w).checked in
    TakenApart (check_slots_call c p m n w).returned k.number k.slot

-- DECISIONS, Several numbers in one: number, and 1 for read or 0 for skip, of cb_decide
abbrev pub UnpackedDecide : Type 0
UnpackedDecide =
    (known : Bool) (m : List ℕ) (n slot : ℕ) (wanted : List ℕ) (held : ℕ)
    → TakenApart (decide_call known m n slot wanted held) (decided_for known m n slot wanted held).number (bit_of (decided_for known m n slot wanted held).read)

-- DECISIONS, Several numbers in one: number, Begin and End
abbrev pub EndsApart : ℕ → Read → Type 0
EndsApart r x = (r % 256 ≡ x.number) × (r / 256 % 256 ≡ x.begin) × (r / 0x10000 ≡ x.end)

-- DECISIONS, Several numbers in one: these, of cb_read_schedule
abbrev pub UnpackedReadSchedule : Type 0
UnpackedReadSchedule = (m : List ℕ) (n : ℕ) → EndsApart (schedule_call m n) (read m n)

-- DECISIONS, Several numbers in one: and of cb_slots, where the slots' memory is 48 numbers
abbrev pub UnpackedSlotsReturned : Type 0
UnpackedSlotsReturned = (m : List ℕ) (n : ℕ) (o : List ℕ) → length o ≡ 48 → EndsApart (slots_call m n o).returned (read m n)

-- 01 Numbers given, 15: alone, where it isn't
abbrev pub UnpackedSlotsLength : Type 0
UnpackedSlotsLength = (m : List ℕ) (n : ℕ) (o : List ℕ) → (length o ≡ 48 → ⊥) → TakenApart (slots_call m n o).returned 15 0

-- DECISIONS, Several numbers in one: code and new bit of a slot up to End of a message of octets, as cb_slots leaves them
abbrev pub UnpackedSlots : Type 0
UnpackedSlots =
    (m : List ℕ) (n : ℕ) (o : List ℕ) → length o ≡ 48 → (read m n).number ≡ 0 → (i : ℕ) → i < 48 → Below 256 m → i < end m
    → (get_or (slots_call m n o).memory i 0 % 0x10000 ≡ code_of (tells m i)) × (get_or (slots_call m n o).memory i 0 / 0x10000 ≡ bit_of (new m i))

-- DECISIONS, Several numbers in one: 0 for a slot past it
abbrev pub UnpackedSlotsPast : Type 0
UnpackedSlotsPast =
    (m : List ℕ) (n : ℕ) (o : List ℕ) → length o ≡ 48 → (read m n).number ≡ 0 → (i : ℕ) → i < 48 → end m ≤ i
    → get_or (slots_call m n o).memory i 0 ≡ 0

-- DECISIONS, Several numbers in one: number 0, slot, new bit and code of a description that cb_description gives; no more is 0 by definition
abbrev pub UnpackedNext : Type 0
UnpackedNext =
    (m : List ℕ) (n k i : ℕ) (s : Shown) → given m n k ≡ next i s
    → (description_call m n k % 256 ≡ 0)
    × (description_call m n k / 0x100 % 256 ≡ i)
    × (description_call m n k / 0x10000 % 256 ≡ bit_of s.new)
    × (description_call m n k / 0x100000000 ≡ code_of s.told)

-- 01 Order: a refusal's number, and nothing else, of cb_description
abbrev pub UnpackedRefusal : Type 0
UnpackedRefusal = (m : List ℕ) (n k r : ℕ) → given m n k ≡ refusal r → TakenApart (description_call m n k) r 0

-- DECISIONS, Several numbers in one: a repeat that is given has a code from 1 to 47, so no two kinds of description share a code
abbrev pub RepeatCode : Type 0
RepeatCode = (m : List ℕ) (n k i j : ℕ) (s : Shown) → given m n k ≡ next i s → s.told ≡ again j → (1 ≤ j) × (j ≤ 47)

-- DECISIONS, Several numbers in one: number, scheme, serial number, identifier and parameter of a page of octets, of cb_read_header
abbrev pub UnpackedReadHeader : Type 0
UnpackedReadHeader =
    (p : List ℕ) → Below 256 p
    → (header_call p % 256 ≡ (headed p).number)
    × (header_call p / 0x100 % 256 ≡ (headed p).heading.scheme)
    × (header_call p / 0x10000 % 0x10000 ≡ (headed p).heading.serial)
    × (header_call p / 0x100000000 % 0x10000 ≡ (headed p).heading.id)
    × (header_call p / 0x1000000000000 ≡ (headed p).heading.parameter)

-- 02 No. 1: of two plan files the current one if it is refused, else the previous one
abbrev pub first_refused_file : List ℕ → List ℕ → List ℕ
first_refused_file c p = cond (eqb (read_plan c).number 0) p c

-- 02 No. 1: where 36 or 37 comes out of what a call returned, the entry that comes out of it is the file's lowest bad one; 40 aside, 0 comes
-- out with every other refusal
pub record NamedByCall (f : List ℕ) (returned : ℕ) : Type 0 where
  pub named : Naming (returned % 256) → LowestBad (listed f) (returned % 256) (returned / 256)
  pub unnamed : (returned % 256 ≡ 0 → ⊥) → (Naming (returned % 256) → ⊥) → (returned % 256 ≡ 40 → ⊥) → returned / 256 ≡ 0

-- 02 No. 1: so of cb_read_plan, cb_write_schedule, cb_check_schedule and cb_check_slots
pub record CallsNameLowestBad : Type 0 where
  pub reader : (f : List ℕ) → NamedByCall f (plan_call f)
  pub writer : (c p : List ℕ) (b : ℕ) (o : List ℕ) → NamedByCall (first_refused_file c p) (write_schedule_call c p b o).returned
  pub checker : (c p m : List ℕ) (received : ℕ) → NamedByCall (first_refused_file c p) (check_schedule_call c p m received)
  pub slots : (c p m : List ℕ) (received : ℕ) (w : List ℕ) → length w ≡ 48 → NamedByCall (first_refused_file c p) (check_slots_call c p m received w).returned
