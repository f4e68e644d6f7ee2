-- What is promised of plans that are judged: which entry is named, and that nothing else differs from document 01.
use Rattle.std.specs.Prelude.{cond, false, List, [], ◌∷◌, ◌≡◌, ◌⊎◌, ℕ, ◌-◌, ◌≤◌, ◌<◌, eqb, ltb, length, get_or}
use Rattle.laws.specs.Ruled.{ruled}
use Rattle.laws.specs.Search.{some}
use Rattle.plan.specs.Paper.{Entry, Plan, free, all_zero, bad, entries_within, plan_number, plan_entry, plans_number, plans_entry}

-- 02 No. 1: a number that names an entry
abbrev pub Naming : ℕ → Type 0
Naming n = (n ≡ 36) ⊎ (n ≡ 37)

-- 02 No. 1: n says what is wrong with an entry: 36 a kind over 2, 37 a kind 0 or 1 with octets that aren't all 0
abbrev pub Wrong : ℕ → Entry → Type 0
Wrong n e = ((n ≡ 36) × (2 < e.kind)) ⊎ ((n ≡ 37) × (e.kind < 2) × (all_zero e ≡ false))

-- 02 No. 1: entry number k, counted from 1, is wrong in the way that n says, and no entry below it is bad
pub record LowestBad (es : List Entry) (n k : ℕ) : Type 0 where
  pub one : 1 ≤ k
  pub within : k ≤ length es
  pub wrong : Wrong n (get_or es (k - 1) free)
  pub below : (i : ℕ) → i < k - 1 → bad (get_or es i free) ≡ false

-- 02 No. 1: with 36 and 37 the lowest bad entry is named, with every other number none
pub record NamesBad (es : List Entry) (n k : ℕ) : Type 0 where
  pub named : Naming n → LowestBad es n k
  pub unnamed : (Naming n → ⊥) → k ≡ 0

-- 02 No. 1: of a plan by value the lowest bad entry within the count is named
abbrev pub NamesLowestBad : Type 0
NamesLowestBad = (p : Plan) → NamesBad (entries_within p) (plan_number p) (plan_entry p)

-- 02 No. 1: of two plans the current one if it is refused, else the previous one
abbrev pub first_refused : Plan → Plan → Plan
first_refused c p = cond (eqb (plan_number c) 0) p c

-- 02 No. 1: of two plans the lowest bad entry of the first that is refused is named
abbrev pub NamesLowestOfTwo : Type 0
NamesLowestOfTwo = (c p : Plan) → NamesBad (entries_within (first_refused c p)) (plans_number c p) (plans_entry c p)

-- 01 The plan: what document 01 says of a plan by value: a count over 48 gives 32, a bad entry within the count 33
abbrev pub plan_number_in01 : Plan → ℕ
plan_number_in01 p = ruled (λ n. n) ((ltb 48 p.count, 32) ∷ (some bad (entries_within p), 33) ∷ []) 0

-- 02 No. 1: what document 01's number m becomes: 36 or 37 where it is 33, and every other number stays
abbrev pub Becomes : ℕ → ℕ → Type 0
Becomes m n = ((m ≡ 33) × Naming n) ⊎ ((m ≡ 33 → ⊥) × (n ≡ m))

-- 02 No. 1: nothing that was accepted changes, nor another refusal: a plan is good, or refused by 32, exactly as in document 01
abbrev pub AcceptedAsBefore : Type 0
AcceptedAsBefore = (p : Plan) → Becomes (plan_number_in01 p) (plan_number p)
