-- What is promised of the entry that the checker names.
use Rattle.std.specs.Prelude.{ℕ, List, ◌≡◌}
use Rattle.plan.specs.Paper.{Plan, entries_within}
use Rattle.plan.specs.Claims.{Naming, LowestBad, first_refused}
use Rattle.checker.specs.Paper.{Checked, check}

-- 02 No. 1: with 36 and 37 the slot of an answer is that of the lowest bad entry of the first plan that is refused; 40 aside, it is 0 with
-- every other number
pub record SlotNamed (c p : Plan) (k : Checked) : Type 0 where
  pub named : Naming k.number → LowestBad (entries_within (first_refused c p)) k.number k.slot
  pub unnamed : (Naming k.number → ⊥) → (k.number ≡ 40 → ⊥) → k.slot ≡ 0

-- 02 No. 1: so of what the checker answers
abbrev pub CheckerNamesLowestBad : Type 0
CheckerNamesLowestBad = (c p : Plan) (m : List ℕ) (received : ℕ) → SlotNamed c p (check c p m received)
