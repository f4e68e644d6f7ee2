-- The call for C that tells all slots of a schedule message, and how a slot is a number.
use Rattle.std.specs.Prelude.{cond, not, List, ◌∷◌, ℕ, ◌+◌, ◌*◌, eqb, ltb, length}
use Rattle.laws.specs.Ruled.{ruled}
use Rattle.laws.specs.Upto.{each}
use Rattle.calls.specs.Paper.{CallLeft, bit_of}
use Rattle.schedule.specs.Paper.{end, Shown, shown, good, faults}
use Rattle.schedule_calls.specs.Paper.{packed_read, code_of}

-- DECISIONS, Several numbers in one: what is shown of a slot: code + 2^16 × new bit
abbrev pub packed_shown : Shown → ℕ
packed_shown s = code_of s.told + 0x10000 * bit_of s.new

-- DECISIONS, Several numbers in one: slot i, counted from 0; 0 past End
abbrev pub packed_slot : List ℕ → ℕ → ℕ
packed_slot m i = cond (ltb i (end m)) (packed_shown (shown m i)) 0

-- 01 Schedule message: what a message that is read leaves: its Begin and End, and the numbers of the 48 slots
abbrev pub told_all : List ℕ → CallLeft
told_all m = record { returned = packed_read (good m); memory = each (packed_slot m) 48 }

-- 01 Order: 15 where the slots' memory isn't 48 numbers, then the reader's refusals; with a refusal the memory s stays as it was
unfoldable pub slots_call : List ℕ → ℕ → List ℕ → CallLeft
slots_call m received s =
    ruled (λ (n : ℕ). record { returned = n; memory = s }) ((not (eqb (length s) 48), 15) ∷ faults m received) (told_all m)
