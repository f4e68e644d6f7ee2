-- What the reader of descriptions gives, call by call and in all, as document 01 has it, in numbers and lists.
use Rattle.std.specs.Prelude.{false, List, ℕ, zero, suc, ◌+◌}
use Rattle.laws.specs.Ruled.{ruled}
use Rattle.laws.specs.Upto.{each}
use Rattle.schedule.specs.Paper.{optional, end, faults, Shown, GivenSlot, next, no_more, refusal, given_at, given}

-- 01 Schedule message: a call of the reader of descriptions: what it gives, and the place that it leaves; a place is how many slots are given already
pub record Stepped : Type 0 where
  pub given : GivenSlot
  pub place : ℕ

-- 01 Schedule message: a call passes the slot that it gives; after the last, and over a refused message, it passes none
abbrev pub passed : GivenSlot → ℕ
passed (next n s) = 1
passed no_more = 0
passed (refusal n) = 0

-- 01 Schedule message: a call at a place gives what stands there, and the next call what stands after it
abbrev pub stepped : List ℕ → ℕ → ℕ → Stepped
stepped m received place =
    record { given = given m received place; place = place + passed (given m received place) }

-- 01 Schedule message: the place that opening and k calls reach
abbrev pub reached : List ℕ → ℕ → ℕ → ℕ
reached m received zero = 0
reached m received (suc k) = (stepped m received (reached m received k)).place

-- 01 Schedule message: a slot by its number, and what is shown of it
pub record Numbered : Type 0 where
  pub number : ℕ
  pub shown : Shown

-- 01 Schedule message: all that the reader of descriptions gives, in the message's order: the refusal's number or 0, how many slots are given, and each, with unused ones after them up to 48
pub record Ordered : Type 0 where
  pub number : ℕ
  pub count : ℕ
  pub given : List Numbered

-- 01 Order: where no slot is given the number is 0, and what is shown is not new and optional
abbrev pub nothing : Numbered
nothing = record { number = 0; shown = record { new = false; told = optional } }

-- 01 Schedule message: the slot that is given, if one is
abbrev pub entry : GivenSlot → Numbered
entry (next n s) = record { number = n; shown = s }
entry no_more = nothing
entry (refusal n) = nothing

-- 01 Order: with a refusal no slot is given
abbrev pub unordered : ℕ → Ordered
unordered n = record { number = n; count = 0; given = each (λ (k : ℕ). nothing) 48 }

-- 01 Schedule message: a message that is not refused gives its slots up to End, each in its place of the order
abbrev pub in_order : List ℕ → Ordered
in_order m = record { number = 0; count = end m; given = each (λ (k : ℕ). entry (given_at m k)) 48 }

-- 01 Schedule message, Order: the reader of descriptions, from opening to no more
unfoldable pub ordered : List ℕ → ℕ → Ordered
ordered m received = ruled unordered (faults m received) (in_order m)
