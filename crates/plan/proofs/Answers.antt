-- Which test of a plan by value answers, and what is named with it, on plain facts.
use Rattle.laws.proofs.Base.{◌≡◌, refl, sym, ap, ◌∙◌, Bool, true, false, cond, not, List, inl, inr, ⊎_elim, ℕ, ◌+◌, ◌-◌, ◌≤◌}
use Rattle.laws.proofs.Base.{◌<◌, arith, ltb, eqb, length, get_or, lt-ltb, le-ltb, ltb-true, ltb-false, ne_eqb, eqb-true, not-false, length-take, ◌||◌}
use Rattle.laws.specs.Search.{some}
use Rattle.laws.proofs.Search.{Found, none_passes, first_passes, searched, found_some}
use Rattle.laws.proofs.Tests.{true_or_false}
use Rattle.plan.specs.Inner.{entries_answer}
use Rattle.plan.specs.Claims.{Naming}
use Rattle.plan.specs.Paper.{Entry, Plan, free, entries_within, bad, lowest_bad, fault_of, lowest_fault, naming, plan_number, plan_entry, plan_answer}

-- what a number that names an entry names is there
pub naming_is : (n e : ℕ) → Naming n → naming n e ≡ e
naming_is n e h = ⊎_elim (λ q. rw q) (λ q. rw q) h

module _ (es : List Entry) where
  -- the fault of the lowest bad entry is such a number
  pub fault_naming : Naming (lowest_fault es)
  unfolding lowest_fault
  fault_naming = go (ltb 2 (get_or es (lowest_bad es - 1) free).kind)
    where
      go : (b : Bool) → Naming (cond b 36 37)
      go true = inl refl
      go false = inr refl

  pub fault_low : (36 ≤ lowest_fault es) × (lowest_fault es ≤ 37)
  fault_low = ⊎_elim (λ q. (omega arith, omega arith)) (λ q. (omega arith, omega arith)) fault_naming

  none_lowest : some bad es ≡ false → lowest_bad es ≡ 0
  none_lowest b = eqb-true (lowest_bad es) 0 (not-false _ (found_some bad 0 es ∙ b))

  -- the search finds no bad entry
  pub none_found : lowest_bad es ≡ 0 → entries_answer es ≡ record { number = 0; entry = 0 }
  none_found e =
      let none : some bad es ≡ false = sym (found_some bad 0 es) ∙ ap (λ (s : ℕ). not (eqb s 0)) e in
      rw (none, e)

  -- it finds one
  pub found : (i : ℕ) → lowest_bad es ≡ i + 1 → (n : ℕ) → n ≡ fault_of (get_or es i free) → entries_answer es ≡ record { number = n; entry = i + 1 }
  unfolding lowest_fault
  found i e n q =
      let one : some bad es ≡ true = sym (found_some bad 0 es) ∙ ap (λ (t : ℕ). not (eqb t 0)) e ∙ ap not (ne_eqb (i + 1) 0 (omega arith)) in
      let at : i + 1 - 1 ≡ i = omega arith in
      rw (one, e, at, q)

-- no entry is named past the last
lowest_few : (es : List Entry) → lowest_bad es ≤ length es
lowest_few es = go (searched bad free 1 es)
  where
    go : {r : ℕ} → Found bad free 1 es r → r ≤ length es
    go (none_passes e none) = omega arith
    go (first_passes i e h t before) = omega arith

naming_most : (n e : ℕ) → naming n e ≤ e
naming_most n e = go (eqb n 36 || eqb n 37)
  where
    go : (b : Bool) → cond b e 0 ≤ e
    go true = omega arith
    go false = omega arith

module _ (p : Plan) where
  -- a plan's number tells what is named
  by_number : (n : ℕ) → plan_number p ≡ n → plan_answer p ≡ record { number = n; entry = naming n (lowest_bad (entries_within p)) }
  unfolding plan_entry
  by_number n e = rw e

  pub over_number : 48 < p.count → plan_number p ≡ 32
  unfolding plan_number
  over_number h = simp (lt-ltb 48 p.count h)

  pub over : 48 < p.count → plan_answer p ≡ record { number = 32; entry = 0 }
  over h = by_number 32 (over_number h)

  -- nor past the 48th
  pub plan_few : plan_entry p ≤ 48
  unfolding plan_entry
  plan_few =
      true_or_false (ltb 48 p.count)
      (λ o. rw (over_number (ltb-true 48 p.count o)) (omega arith))
      (λ l.
      omega (
        arith,
        naming_most (plan_number p) (lowest_bad (entries_within p)),
        lowest_few (entries_within p),
        length-take p.count p.entries,
        ltb-false 48 p.count l,
      ))

  module _ (h : p.count ≤ 48) where
    pub none_bad : some bad (entries_within p) ≡ false → plan_number p ≡ 0
    unfolding plan_number
    none_bad b = simp (le-ltb 48 p.count h, b)

    pub some_bad : some bad (entries_within p) ≡ true → plan_number p ≡ lowest_fault (entries_within p)
    unfolding plan_number
    some_bad b = simp (le-ltb 48 p.count h, b)

    -- past the test of the count, what is said of its entries is said of a plan
    pub by_entries : entries_answer (entries_within p) ≡ plan_answer p
    unfolding plan_entry
    by_entries =
        true_or_false (some bad (entries_within p))
        (λ b. rw (b, some_bad b) (λ i. record { number = lowest_fault (entries_within p); entry = sym (naming_is _ (lowest_bad (entries_within p)) (fault_naming (entries_within p))) i }))
        (λ b. rw (b, none_bad b) (λ i. record { number = 0; entry = none_lowest (entries_within p) b i }))
