-- The decision for a slot, as document 01 has it. Slots go by their numbers here, from 1.
use Rattle.std.specs.Prelude.{Bool, true, false, cond, not, ◌&&◌, List, [], ◌∷◌, ℕ, ◌-◌, ◌%◌, take, eqb, leb, ltb}
use Rattle.laws.specs.Ruled.{ruled}
use Rattle.laws.specs.Search.{some}
use Rattle.schedule.specs.Paper.{Told, first, again, optional, advised, tells}
use Rattle.board_held.specs.Paper.{Schedule, is_held, tells_of}

-- 01 Decision: a wanted list: a count, and identifiers of which those within the count are wanted
pub record Wanted : Type 0 where
  pub count : ℕ
  pub ids : List ℕ

-- 01 Decision: an identifier of a first transmission matches a wanted one in 15 bits
abbrev pub matches15 : ℕ → ℕ → Bool
matches15 x w = eqb (w % 0x8000) (x % 0x8000)

-- 01 Decision: an identifier matches some wanted one
unfoldable pub is_wanted : Wanted → ℕ → Bool
is_wanted w x = some (matches15 x) (take w.count w.ids)

-- 01 Decision: a description is a first transmission that matches
abbrev pub first_matches : Wanted → Told → Bool
first_matches w (first x) = is_wanted w x
first_matches w (again n) = false
first_matches w optional = false
first_matches w advised = false

-- 01 Decision: read for advised, for a first that matches, and for a repeat whose first matches and whose first's slot isn't held; skip the rest. Slots that t tells of count from 0
abbrev pub reads_for : (ℕ → Told) → Wanted → ℕ → Told → Bool
reads_for t w h (first x) = is_wanted w x
reads_for t w h (again n) = first_matches w (t (n - 1)) && not (is_held h n)
reads_for t w h optional = false
reads_for t w h advised = true

-- 01 Decision: read if there is no schedule, the schedule is refused or the slot is past End; otherwise by what is told of the slot
unfoldable pub reads : Schedule → ℕ → Wanted → ℕ → Bool
reads s n w h = cond (tells_of s n) (reads_for (tells s.message) w h (tells s.message (n - 1))) true

-- 01 Order: the decision's number, and whether to read
pub record Decided : Type 0 where
  pub number : ℕ
  pub read : Bool

-- 01 Order: a refused decision's other value is skip
abbrev pub undecided : ℕ → Decided
undecided n = record { number = n; read = false }

-- 01 Order, decision: 41, 42
unfoldable pub decide : Schedule → ℕ → Wanted → ℕ → Decided
decide s n w h =
    ruled undecided ((not (leb 1 n && leb n 48), 41) ∷ (ltb 64 w.count, 42) ∷ [])
    (record { number = 0; read = reads s n w h })
