-- The slots of a page in a plan, and what a plan and the plan before it say of a slot. Slots are counted from 0 here: slot i is number i + 1.
use Rattle.std.specs.Prelude.{ℕ, ◌%◌, Bool, not, ◌&&◌, eqb}
use Rattle.laws.specs.Search.{some, first_from}
use Rattle.page.specs.Paper.{Name, same_page}
use Rattle.plan.specs.Paper.{Entry, Plan, entries_within, entry_at}

-- 01 Page and text: the page of an entry, by what tells it from others
abbrev pub page_of : Entry → Name
page_of e = record { serial = e.serial; id = e.id; parameter = e.parameter }

-- 01 The plan: a slot is planned with a page: kind 2, and the same page
unfoldable pub holds : Name → Entry → Bool
holds x e = eqb e.kind 2 && same_page (page_of e) x

-- 01 The plan: the lowest slot with a page, slots counted from 1; 0 for none
unfoldable pub lowest_slot : Plan → Name → ℕ
lowest_slot p x = first_from (holds x) 1 (entries_within p)

-- 01 The plan: a plan has or lacks a page
unfoldable pub has_page : Plan → Name → Bool
has_page p x = some (holds x) (entries_within p)

-- 01 The plan: the page of a slot planned with one
abbrev pub page_at : Plan → ℕ → Name
page_at p i = page_of (entry_at p i)

-- 01 Truthful: the lowest slot with the page of a slot, by its number
abbrev pub lowest_at : Plan → ℕ → ℕ
lowest_at p i = lowest_slot p (page_at p i)

-- 01 Schedule message, Descriptions: the low 15 bits of the identifier planned for a slot
abbrev pub low15_at : Plan → ℕ → ℕ
low15_at p i = (entry_at p i).id % 32768

-- 01 Truthful: what the plans say of a slot: its kind; of its page the low 15 bits of the identifier, the lowest slot with it, and whether the previous plan lacks it
pub record Planned : Type 0 where
  pub kind : ℕ
  pub low : ℕ
  pub lowest : ℕ
  pub fresh : Bool

-- 01 Truthful: what the current plan c and the previous plan p say of slot i
abbrev pub planned_at : Plan → Plan → ℕ → Planned
planned_at c p i = record { kind = (entry_at c i).kind; low = low15_at c i; lowest = lowest_at c i; fresh = not (has_page p (page_at c i)) }
