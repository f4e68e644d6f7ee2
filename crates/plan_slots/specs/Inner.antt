-- What is said of all slots at once, as the code gives it, and what the inner functions give.
use Rattle.std.specs.Prelude.{◌≡◌, Bool, false, cond, not, List, ℕ, ◌+◌, ◌*◌, ◌%◌, ◌≤◌, ◌<◌, eqb, ltb, length, get_or}
use Rattle.laws.specs.Search.{some, first_from}
use Rattle.laws.specs.Upto.{each}
use Rattle.page.specs.Coded.{key_of}
use Rattle.plan.specs.Paper.{Entry, Plan, free, entry_at}
use Rattle.plan_slots.specs.declared.Planned.{Planned as PlannedCode}
use Rattle.plan_slots.specs.Paper.{Planned, page_of, planned_at}
use Rattle.plan_slots.specs.Coded.{planned_of}

-- of a slot planned with no page only the kind is said
abbrev pub none_planned : ℕ → Planned
none_planned k = record { kind = k; low = 0; lowest = 0; fresh = false }

-- what is said of a slot within the count; entries past it mean nothing, and are said as unused ones are
unfoldable pub said_at : Plan → Plan → ℕ → Planned
said_at c p i =
    cond (ltb i c.count)
    (cond (eqb (entry_at c i).kind 2) (planned_at c p i) (none_planned (entry_at c i).kind))
    (none_planned 0)

-- DECISIONS, Plans looked up once: what is said of each of the forty-eight slots
unfoldable pub all_planned : Plan → Plan → List Planned
all_planned c p = each (said_at c p) 48

-- an entry as one number
abbrev pub mark_of : Entry → ℕ
mark_of e = key_of (page_of e) * 65536 + e.kind

-- a number is an entry's mark, and each part of the entry has its bits in it
pub record Marked (n : ℕ) (e : Entry) : Type 0 where
  pub marks : n ≡ mark_of e
  pub kind : e.kind < 65536
  pub serial : e.serial < 65536
  pub id : e.id < 65536

-- an array has the marks of the first n of forty-eight entries
pub record Marks (ms : List ℕ) (es : List Entry) (n : ℕ) : Type 0 where
  pub long : length ms ≡ 48
  pub whole : length es ≡ 48
  pub each : (i : ℕ) → i < n → Marked (get_or ms i 0) (get_or es i free)

-- what an array says of a slot past its end, which is never read
abbrev pub nothing : PlannedCode
nothing = record { kind = 0; low = 0; lowest = 0; fresh = false }

-- what is said of a slot by its entry, the lowest slot with its page, and whether the plan before has that
unfoldable pub said_by : Entry → ℕ → Bool → Planned
said_by e l h = cond (eqb e.kind 2) (record { kind = e.kind; low = e.id % 32768; lowest = l; fresh = not h }) (none_planned e.kind)

-- what is said of slot i of some entries by the searches for its mark among the marks of the plan and of the plan before
abbrev pub searched : List Entry → List ℕ → List ℕ → ℕ → Planned
searched es ms qs i = said_by (get_or es i free) (first_from (eqb (get_or ms i 0)) 1 ms) (some (eqb (get_or ms i 0)) qs)

-- an array says f of the slots below n, and of the others what is said of an optional one
pub record Says (f : ℕ → Planned) (xs : List PlannedCode) (n : ℕ) : Type 0 where
  pub long : length xs ≡ 48
  pub said : (i : ℕ) → i < n → planned_of (get_or xs i nothing) ≡ f i
  pub rest : (i : ℕ) → i < 48 → n ≤ i → planned_of (get_or xs i nothing) ≡ none_planned 0
