-- What is promised of the slots of a page. Slots are counted from 0 here: slot i is number i + 1.
use Rattle.std.specs.Prelude.{◌≡◌, true, ℕ, suc, ◌-◌, ◌≤◌, ◌<◌}
use Rattle.page.specs.Paper.{same_page}
use Rattle.plan.specs.Paper.{Plan, entry_at}
use Rattle.plan_slots.specs.Paper.{page_at, lowest_at}

-- 01 Truthful: the slot with number s is the lowest with the page of slot i: it is no higher, has that page, and is its own lowest
pub record Leading (p : Plan) (i s : ℕ) : Type 0 where
  pub some : 0 < s
  pub reaches : s ≤ suc i
  pub page : (entry_at p (s - 1)).kind ≡ 2
  pub same : same_page (page_at p (s - 1)) (page_at p i) ≡ true
  pub id : (entry_at p (s - 1)).id ≡ (entry_at p i).id
  pub own : lowest_at p (s - 1) ≡ s

-- 01 Truthful: of each slot within the count that is planned with a page, the lowest slot with that page is so
abbrev pub LowestLeads : Type 0
LowestLeads = (p : Plan) (i : ℕ) → i < p.count → (entry_at p i).kind ≡ 2 → Leading p i (lowest_at p i)
