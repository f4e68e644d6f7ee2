-- Plans by value as the documents have them, in numbers and lists.
use Rattle.std.specs.Prelude.{ℕ, ◌-◌, Bool, cond, not, ◌&&◌, ◌||◌, List, [], ◌∷◌, ◌++◌, eqb, ltb, length, take, replicate, get_or}
use Rattle.laws.specs.Ruled.{ruled, unless0}
use Rattle.laws.specs.Search.{some, first_from}

-- 01 The plan: a slot's entry: a kind (0 optional, 1 advised, 2 page), serial number, message identifier, page parameter
pub record Entry : Type 0 where
  pub kind : ℕ
  pub serial : ℕ
  pub id : ℕ
  pub parameter : ℕ

-- 01 The plan: a count of slots, and entries held by value
pub record Plan : Type 0 where
  pub count : ℕ
  pub entries : List Entry

-- 01 The plan: an unused entry is optional
abbrev pub free : Entry
free = record { kind = 0; serial = 0; id = 0; parameter = 0 }

-- 01 The plan: forty-eight entries, the unused ones optional
abbrev pub filled_plan : List Entry → Plan
filled_plan es = record { count = length es; entries = es ++ replicate (48 - length es) free }

-- 01 Order: the empty plan, which stands beside a refusal
abbrev pub empty : Plan
empty = record { count = 0; entries = replicate 48 free }

-- 01 The plan: the entries within the count; those past it mean nothing
abbrev pub entries_within : Plan → List Entry
entries_within p = take p.count p.entries

-- 01 The plan: the entry of a slot, slots counted from 0 here as in the schedule
abbrev pub entry_at : Plan → ℕ → Entry
entry_at p i = get_or p.entries i free

-- 01 The plan: all of serial number, message identifier and page parameter 0
abbrev pub all_zero : Entry → Bool
all_zero e = eqb e.serial 0 && (eqb e.id 0 && eqb e.parameter 0)

-- 01 Numbers given, 33: entry kind over 2, or non-zero octets in kind 0 or 1
unfoldable pub bad : Entry → Bool
bad e = ltb 2 e.kind || (ltb e.kind 2 && not (all_zero e))

-- 02 No. 1: the number of the lowest bad entry, entries counted from 1; 0 where none is bad
abbrev pub lowest_bad : List Entry → ℕ
lowest_bad es = first_from bad 1 es

-- 02 No. 1: what is wrong with a bad entry: 36 for a kind over 2, whatever its octets, else 37 for its octets
abbrev pub fault_of : Entry → ℕ
fault_of e = cond (ltb 2 e.kind) 36 37

-- 02 No. 1: what is wrong with the lowest bad entry
unfoldable pub lowest_fault : List Entry → ℕ
lowest_fault es = fault_of (get_or es (lowest_bad es - 1) free)

-- 02 No. 1: with 36 and 37 an entry e is named; with every other number n the field is 0
abbrev pub naming : ℕ → ℕ → ℕ
naming n e = cond (eqb n 36 || eqb n 37) e 0

-- 01 The plan: what writer and checker say of a plan by value: a count over 48 gives 32, a bad entry within the count 36 or 37 (02 No. 1)
unfoldable pub plan_number : Plan → ℕ
plan_number p = ruled (λ n. n) ((ltb 48 p.count, 32) ∷ (some bad (entries_within p), lowest_fault (entries_within p)) ∷ []) 0

-- 02 No. 1: the entry that is named with a plan's number
unfoldable pub plan_entry : Plan → ℕ
plan_entry p = naming (plan_number p) (lowest_bad (entries_within p))

-- 01 Order, schedule writer, checker: what both ask of the current plan c and the previous plan p: current, previous, 35
abbrev pub plans_tests : Plan → Plan → List (Bool × ℕ)
plans_tests c p = unless0 (plan_number c) ∷ unless0 (plan_number p) ∷ (eqb c.count 0, 35) ∷ []

-- 01 Order, schedule writer, checker: the number that the two plans are refused by, or 0
unfoldable pub plans_number : Plan → Plan → ℕ
plans_number c p = ruled (λ n. n) (plans_tests c p) 0

-- 02 No. 1: the entry that is named with the number of two plans: that of the first that is refused
unfoldable pub plans_entry : Plan → Plan → ℕ
plans_entry c p = cond (eqb (plan_number c) 0) (plan_entry p) (plan_entry c)

-- 02 No. 1: what is said of plans: their number, 0 for good ones, and the entry that is named with it
pub record Verdict : Type 0 where
  pub number : ℕ
  pub entry : ℕ

-- 02 No. 1: of a plan
abbrev pub plan_answer : Plan → Verdict
plan_answer p = record { number = plan_number p; entry = plan_entry p }

-- 02 No. 1: of the current plan c and the previous plan p
abbrev pub plans_answer : Plan → Plan → Verdict
plans_answer c p = record { number = plans_number c p; entry = plans_entry c p }
