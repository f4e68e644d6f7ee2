-- What two plans say, found once for any number of messages.
use Rattle.std.specs.Prelude.{List, ℕ, replicate}
use Rattle.laws.specs.Ruled.{ruled}
use Rattle.plan.specs.Paper.{Plan, plans_tests, plans_entry}
use Rattle.plan_slots.specs.Paper.{Planned}
use Rattle.plan_slots.specs.Inner.{none_planned, all_planned}

-- 01 Order, 02 No. 1: the number that the plans are refused by or 0, the entry named with it, the current plan's count, and what both say of each slot
pub record Plans : Type 0 where
  pub number : ℕ
  pub entry : ℕ
  pub count : ℕ
  pub said : List Planned

-- 01 Order: with a refusal, which names entry e, nothing is said
abbrev pub unsaid : ℕ → ℕ → Plans
unsaid e n = record { number = n; entry = e; count = 0; said = replicate 48 (none_planned 0) }

-- 01 Order, checker: current, previous, 35
unfoldable pub beside : Plan → Plan → Plans
beside c p = ruled (unsaid (plans_entry c p)) (plans_tests c p) (record { number = 0; entry = 0; count = c.count; said = all_planned c p })
