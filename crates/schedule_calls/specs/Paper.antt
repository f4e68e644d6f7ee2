-- The calls for C that read a schedule message: the schedule room's answers, packed, and descriptions as numbers.
use Rattle.std.specs.Prelude.{List, ℕ, ◌+◌, ◌*◌}
use Rattle.calls.specs.Paper.{bit_of}
use Rattle.schedule.specs.Paper.{Told, first, again, optional, advised, Read, read, GivenSlot, next, no_more, refusal, given}

-- DECISIONS, Several numbers in one: number + 2^8 × Begin + 2^16 × End
abbrev pub packed_read : Read → ℕ
packed_read r = r.number + 0x100 * r.begin + 0x10000 * r.end

-- DECISIONS, Several numbers in one: a description as one number: 8000 hex + the 15 bits of a first transmission, the slot that is repeated, 40 or 41 hex
abbrev pub code_of : Told → ℕ
code_of (first x) = 0x8000 + x
code_of (again n) = n
code_of optional = 0x40
code_of advised = 0x41

-- 01 Schedule message: the schedule reader for C
abbrev pub schedule_call : List ℕ → ℕ → ℕ
schedule_call m received = packed_read (read m received)

-- DECISIONS, Several numbers in one: number + 2^8 × slot + 2^16 × new bit + 2^32 × code; all are 0 for no more, and all but the number with a refusal
abbrev pub packed_given : GivenSlot → ℕ
packed_given (next n s) = 0x100 * n + 0x10000 * bit_of s.new + 0x100000000 * code_of s.told
packed_given no_more = 0
packed_given (refusal n) = n

-- 01 Schedule message: the reader of descriptions for C
abbrev pub description_call : List ℕ → ℕ → ℕ → ℕ
description_call m received place = packed_given (given m received place)
