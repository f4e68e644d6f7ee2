-- The call for C that decides for a slot.
use Rattle.std.specs.Prelude.{Bool, List, ℕ}
use Rattle.calls.specs.Paper.{in_one, bit_of}
use Rattle.board.specs.Paper.{Decided, decide}
use Rattle.board.specs.Coded.{lent_wanted}
use Rattle.board_held.specs.Coded.{lent_schedule}

-- 01 Decision: what is decided beside a schedule message that is known or not, for a list of wanted identifiers
abbrev pub decided_for : Bool → List ℕ → ℕ → ℕ → List ℕ → ℕ → Decided
decided_for known m received slot wanted held =
    decide (lent_schedule known m received) slot (lent_wanted wanted) held

-- DECISIONS, Several numbers in one: number + 256 × (1 read, 0 skip)
abbrev pub packed_decided : Decided → ℕ
packed_decided d = in_one d.number (bit_of d.read)

-- 01 Decision: the decision for C
abbrev pub decide_call : Bool → List ℕ → ℕ → ℕ → List ℕ → ℕ → ℕ
decide_call known m received slot wanted held = packed_decided (decided_for known m received slot wanted held)
