-- What a good plan has within its count.
use Rattle.laws.proofs.Base.{◌≡◌, refl, sym, ap, ◌∙◌, Bool, true, false, false≢true, cond, List, [], ◌∷◌, inl, inr, ℕ, suc, ◌≤◌, ◌<◌, arith, by_contra, ltb}
use Rattle.laws.proofs.Base.{length, list_get_d_eq_default, lt-ltb, le-ltb, ltb-false}
use Rattle.laws.specs.Search.{some}
use Rattle.laws.proofs.Search.{some_found}
use Rattle.laws.proofs.Ruled.{NoneHolds, none_holds}
use Rattle.plan.specs.Paper.{Entry, Plan, free, entries_within, bad, lowest_fault, plan_number, entry_at}
use Rattle.plan.specs.Claims.{Wrong}
use Rattle.plan.proofs.Answers.{fault_low}

-- an entry that is wrong is bad
pub wrong_bad : (n : ℕ) (e : Entry) → Wrong n e → bad e ≡ true
unfolding bad
wrong_bad n e (inl (q, k)) = simp (lt-ltb 2 e.kind k)
wrong_bad n e (inr (q, k, z)) = simp (le-ltb 2 e.kind (omega arith), lt-ltb e.kind 2 k, z)

-- a plan has no number as high as 40
pub plan_low : (c : Plan) → plan_number c < 40
unfolding plan_number
plan_low c = let fault = fault_low (entries_within c) in go fault (ltb 48 c.count) (some bad (entries_within c))
  where
    go : (36 ≤ lowest_fault (entries_within c)) × (lowest_fault (entries_within c) ≤ 37) → (a b : Bool) → cond a 32 (cond b (lowest_fault (entries_within c)) 0) < 40
    go l true b = omega arith
    go l false true = omega arith
    go l false false = omega arith

-- an entry past the array is free, so one of another kind is in it
pub inside : (p : Plan) (i : ℕ) → 0 < (entry_at p i).kind → i < length p.entries
inside p i k =
    by_contra (suc i) (length p.entries)
    (λ past. let none : (entry_at p i).kind ≡ 0 = ap (λ (e : Entry). e.kind) (list_get_d_eq_default p.entries free (omega arith)) in omega arith)

module _ (c : Plan) (g : plan_number c ≡ 0) where
  abbrev tests : List (Bool × ℕ)
  tests = (ltb 48 c.count, 32) ∷ (some bad (entries_within c), lowest_fault (entries_within c)) ∷ []

  none : NoneHolds tests
  unfolding plan_number
  none = none_holds tests 0 ((λ t e. omega arith), ((λ t e. omega (arith, fault_low (entries_within c))), tt)) g

  -- a good plan has no more than 48 slots
  pub good_counted : c.count ≤ 48
  good_counted = ltb-false 48 c.count none.0

  -- nor a bad entry within its count
  pub good_unfaulty : some bad (entries_within c) ≡ false
  good_unfaulty = none.1.0

  -- a kind within the count of a good plan is 0, 1 or 2
  pub kind_few : (i : ℕ) → i < c.count → (entry_at c i).kind < 3
  kind_few i l =
      by_contra (suc (entry_at c i).kind) 3
      (λ far.
      let found = some_found bad free c.count c.entries i l (inside c i (omega arith)) (wrong_bad 36 (entry_at c i) (inl (refl, omega arith))) in
      false≢true (sym none.1.0 ∙ found))
