-- The entry that is named is the lowest bad one, and nothing else differs from document 01.
use Rattle.laws.proofs.Base.{◌≡◌, refl, sym, ap, ◌∙◌, subst, Bool, true, false, false≢true, cond, not, ◌||◌, List, inl, inr, ⊎_elim, ℕ, ◌-◌, ◌≤◌, arith, ltb, eqb, get_or}
use Rattle.laws.proofs.Base.{ne_eqb, eqb-true, eqb-false, ltb-true, ltb-false, not-true, length-take, get_or-take}
use Rattle.laws.specs.Search.{some}
use Rattle.laws.proofs.Search.{Found, none_passes, first_passes, searched, some_found, found_some}
use Rattle.laws.proofs.Tests.{true_or_false, both}
use Rattle.plan.specs as defs
use defs.Paper.{Entry, Plan, Verdict, free, all_zero, bad, entries_within, lowest_bad, fault_of, lowest_fault, naming, plan_number, plan_entry, plans_number, plans_entry}
use defs.Claims.{Naming, Wrong, LowestBad, NamesBad, NamesLowestBad, NamesLowestOfTwo, Becomes, AcceptedAsBefore}
use Rattle.plan.proofs as own
use own.Answers.{naming_is, fault_naming, over_number, none_bad, some_bad}
use own.GoodPlan.{wrong_bad, good_unfaulty}
use own.Plans.{plans_current, plans_previous, plans_35, plans_0}

-- a number that names an entry is one of two
pub not_naming : (n : ℕ) → not (eqb n 36 || eqb n 37) ≡ true → Naming n → ⊥
not_naming n e (inl q) = false≢true (rw q at e)
not_naming n e (inr q) = false≢true (rw q at e)

-- another number names none
pub naming_other : (n e : ℕ) → (Naming n → ⊥) → naming n e ≡ 0
naming_other n e h = rw (ne_eqb n 36 (λ q. h (inl q)), ne_eqb n 37 (λ q. h (inr q)))

-- a bad entry is wrong in the way that its fault says
fault_wrong : (e : Entry) → bad e ≡ true → Wrong (fault_of e) e
unfolding bad
fault_wrong e b =
    true_or_false (ltb 2 e.kind)
    (λ k. rw k (inl (refl, ltb-true 2 e.kind k)))
    (λ k.
    let w = both (ltb e.kind 2) (not (all_zero e)) (rw k at b) in
    rw k (inr (refl, ltb-true e.kind 2 w.0, not-true (all_zero e) w.1)))

module _ (es : List Entry) where
  -- where an entry is bad, the search finds the lowest one
  lowest_wrong : some bad es ≡ true → LowestBad es (lowest_fault es) (lowest_bad es)
  unfolding lowest_fault
  lowest_wrong b = go (searched bad free 1 es) refl
    where
      go : {r : ℕ} → Found bad free 1 es r → lowest_bad es ≡ r → LowestBad es (fault_of (get_or es (lowest_bad es - 1) free)) (lowest_bad es)
      go (none_passes e none) q =
          absurd (false≢true (sym (ap (λ (s : ℕ). not (eqb s 0)) (q ∙ e)) ∙ found_some bad 0 es ∙ b))
      go (first_passes i e h t before) q =
          let at : lowest_bad es - 1 ≡ i = omega arith in
          record {
            one = omega arith;
            within = omega arith;
            wrong = rw at (fault_wrong (get_or es i free) t);
            below = λ j l. before j (omega arith);
          }

  -- a number that is the lowest bad entry's fault where it names one, names that entry
  pub names_by : (n : ℕ) → (Naming n → (some bad es ≡ true) × (n ≡ lowest_fault es)) → NamesBad es n (naming n (lowest_bad es))
  names_by n why =
      record {
        named = λ h.
            let w = why h in
            rw (naming_is n (lowest_bad es) h) (subst (λ (m : ℕ). LowestBad es m (lowest_bad es)) (sym w.1) (lowest_wrong w.0));
        unnamed = naming_other n (lowest_bad es);
      }

  -- a number that names none
  names_none : (n : ℕ) → (Naming n → ⊥) → NamesBad es n 0
  names_none n none = record { named = λ h. absurd (none h); unnamed = λ _. refl }

pub names_lowest_bad : NamesLowestBad
unfolding plan_entry
names_lowest_bad p = names_by (entries_within p) (plan_number p) why
  where
    why : Naming (plan_number p) → (some bad (entries_within p) ≡ true) × (plan_number p ≡ lowest_fault (entries_within p))
    why h =
        let high : 36 ≤ plan_number p = ⊎_elim (λ q. omega arith) (λ q. omega arith) h in
        true_or_false (ltb 48 p.count)
        (λ o. let never : ⊥ = omega (arith, over_number p (ltb-true 48 p.count o)) in absurd never)
        (λ l.
        let few = ltb-false 48 p.count l in
        true_or_false (some bad (entries_within p))
        (λ b. (b, some_bad p few b))
        (λ b. let never : ⊥ = omega (arith, none_bad p few b) in absurd never))

pub names_lowest_of_two : NamesLowestOfTwo
names_lowest_of_two c p =
    true_or_false (eqb (plan_number c) 0)
    (λ z. rw z (previous (eqb-true (plan_number c) 0 z)))
    (λ z. rw z (by c (plans_current c p (plan_number c) (plan_entry c) refl (eqb-false (plan_number c) 0 z)) (names_lowest_bad c)))
  where
    by : (q : Plan) {n e : ℕ} → ◌≡◌ {A = Verdict} (record { number = plans_number c p; entry = plans_entry c p }) (record { number = n; entry = e })
        → NamesBad (entries_within q) n e → NamesBad (entries_within q) (plans_number c p) (plans_entry c p)
    by q e = subst (λ (v : Verdict). NamesBad (entries_within q) v.number v.entry) (sym e)

    previous : plan_number c ≡ 0 → NamesBad (entries_within p) (plans_number c p) (plans_entry c p)
    previous k =
        true_or_false (eqb (plan_number p) 0)
        (λ m.
        let good = eqb-true (plan_number p) 0 m in
        true_or_false (eqb c.count 0)
        (λ z. by p (plans_35 c p k good (eqb-true c.count 0 z)) (names_none (entries_within p) 35 (not_naming 35 refl)))
        (λ z. by p (plans_0 c p k good (eqb-false c.count 0 z)) (names_none (entries_within p) 0 (not_naming 0 refl))))
        (λ m. by p (plans_previous c p k (plan_number p) (plan_entry p) refl (eqb-false (plan_number p) 0 m)) (names_lowest_bad p))

-- a good plan has no lowest bad entry
pub good_names_none : (p : Plan) → plan_number p ≡ 0 → {n k : ℕ} → LowestBad (entries_within p) n k → ⊥
good_names_none p g {n} {k} w =
    let short = length-take p.count p.entries in
    let at = get_or-take p.count p.entries (k - 1) free (omega (arith, short, w.one, w.within)) in
    let found =
    some_found bad free p.count p.entries (k - 1) (omega (arith, short, w.one, w.within)) (omega (arith, short, w.one, w.within))
    (ap bad (sym at) ∙ wrong_bad n (get_or (entries_within p) (k - 1) free) w.wrong) in
    false≢true (sym (good_unfaulty p g) ∙ found)

pub accepted_as_before : AcceptedAsBefore
unfolding plan_number
accepted_as_before p = go (ltb 48 p.count) (some bad (entries_within p))
  where
    go : (a b : Bool) → Becomes (cond a 32 (cond b 33 0)) (cond a 32 (cond b (lowest_fault (entries_within p)) 0))
    go true b = inr ((λ e. omega arith), refl)
    go false true = inl (refl, fault_naming (entries_within p))
    go false false = inr ((λ e. omega arith), refl)
