-- The calls for C that take plans, as files: the answers of the rooms of plan, writer and checker, packed.
use Rattle.std.specs.Prelude.{Bool, cond, not, List, [], ◌∷◌, ℕ, eqb, length}
use Rattle.laws.specs.Ruled.{ruled, unless0}
use Rattle.calls.specs.Paper.{CallLeft, in_one, left_with}
use Rattle.plan_read.specs.Paper.{read_plan}
use Rattle.sender.specs.Paper.{ScheduleLeft, unwritten_naming, write_schedule}
use Rattle.checker.specs.Paper.{Checked, refused_at, SlotsChecked, unjudged, check, check_slots}

-- 02 No. 1: what stands beside a number: of 0 what is counted, of a refusal the entry that is named
abbrev pub beside_number : ℕ → ℕ → ℕ → ℕ
beside_number n counted e = cond (eqb n 0) counted e

-- 01 The plan; DECISIONS, Several numbers in one: the reader of plan files for C: number + 256 × count, or entry
abbrev pub plan_call : List ℕ → ℕ
plan_call f = in_one (read_plan f).number (beside_number (read_plan f).number (read_plan f).plan.count (read_plan f).entry)

-- 01 Order: two plan files as tests: the current one's refusal, then the previous one's
abbrev pub file_faults : List ℕ → List ℕ → List (Bool × ℕ)
file_faults c p = unless0 (read_plan c).number ∷ unless0 (read_plan p).number ∷ []

-- 02 No. 1: the entry that two plan files name: that of the first that is refused
abbrev pub files_entry : List ℕ → List ℕ → ℕ
files_entry c p = cond (eqb (read_plan c).number 0) (read_plan p).entry (read_plan c).entry

-- 01 Order, schedule writer: 15, the current plan file c, the previous one p, then as the writer has it for their plans
abbrev pub written_from : List ℕ → List ℕ → ℕ → List ℕ → ScheduleLeft
written_from c p begin out =
    ruled (unwritten_naming (files_entry c p) out) ((not (eqb (length out) 88), 15) ∷ file_faults c p)
    (write_schedule (read_plan c).plan (read_plan p).plan begin out)

-- DECISIONS, Several numbers in one: number + 256 × used octets, or entry; and the output
abbrev pub written_left : ScheduleLeft → CallLeft
written_left w = left_with w.left.number (beside_number w.left.number w.left.used w.entry) w.left.output

-- 01 The plan: the schedule writer for C
abbrev pub write_schedule_call : List ℕ → List ℕ → ℕ → List ℕ → CallLeft
write_schedule_call c p begin out = written_left (written_from c p begin out)

-- 01 Order, checker: the current plan file c, the previous one p, then as the checker has it for their plans
abbrev pub checked_beside : List ℕ → List ℕ → List ℕ → ℕ → Checked
checked_beside c p m received = ruled (refused_at (files_entry c p)) (file_faults c p) (check (read_plan c).plan (read_plan p).plan m received)

-- DECISIONS, Several numbers in one: number + 256 × slot, or entry
abbrev pub packed_checked : Checked → ℕ
packed_checked x = in_one x.number x.slot

-- 01 The plan: the checker for C
abbrev pub check_schedule_call : List ℕ → List ℕ → List ℕ → ℕ → ℕ
check_schedule_call c p m received = packed_checked (checked_beside c p m received)

-- 01 Order: checking slot by slot: 15 where the verdicts' memory w isn't 48 octets, the current plan file c, the previous one p, then as the checker has it for their plans
abbrev pub slots_beside_files : List ℕ → List ℕ → List ℕ → ℕ → List ℕ → SlotsChecked
slots_beside_files c p m received w =
    ruled (unjudged 0 w) ((not (eqb (length w) 48), 15) ∷ [])
    (ruled (unjudged (files_entry c p) w) (file_faults c p) (check_slots (read_plan c).plan (read_plan p).plan m received w))

-- DECISIONS, Several numbers in one: number + 256 × slot, or entry; and the verdicts
abbrev pub packed_slots : SlotsChecked → CallLeft
packed_slots l = record { returned = packed_checked l.checked; memory = l.verdicts }

-- 01 The plan: the checker for C, slot by slot
abbrev pub check_slots_call : List ℕ → List ℕ → List ℕ → ℕ → List ℕ → CallLeft
check_slots_call c p m received w = packed_slots (slots_beside_files c p m received w)
