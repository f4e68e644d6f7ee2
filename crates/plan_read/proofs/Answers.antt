-- Which test of a plan file answers, and what is named with it: those of its front, on plain facts, and after them those of the plan by value.
use Rattle.laws.proofs.Base.{◌≡◌, refl, sym, ap, ◌∙◌, Bool, true, false, cond, not, List, [], ◌∷◌, ◌++◌, ℕ, ◌+◌, ◌*◌, ◌-◌, ◌≤◌, ◌<◌, arith, eqb, length, take}
use Rattle.laws.proofs.Base.{drop, replicate, take-append_seam, eq-eqb, ne_eqb, eqb-true, lt-ltb, le-ltb, ltb-false, not-true, not-false, ◌||◌}
use Rattle.laws.specs.Ruled.{ruled, unless0}
use Rattle.laws.specs.Search.{some}
use Rattle.laws.proofs.Ruled.{NoneHolds, none_holds, ruled_none, ruled_passes}
use Rattle.laws.proofs.Tests.{neither}
use Rattle.page.specs.Paper.{octet}
use Rattle.plan.specs.Paper.{Entry, Plan, Verdict, free, filled_plan, empty, bad, lowest_bad, lowest_fault, naming, plan_number, plan_entry, plan_answer}
use Rattle.plan.proofs.Answers.{fault_low}
use Rattle.laws.proofs.Outcome.{ruled_refuses}
use Rattle.plan_read.specs as defs
use defs.Paper.{sixteen, is_marked, listed, PlanRead, refusal, good_file, faults, read_plan}
use defs.Inner.{front_number}
use Rattle.plan_read.proofs.Entries.{length_entries}

module _ (f : List ℕ) where
  pub front_short : length f < 6 → front_number f ≡ 32
  unfolding front_number
  front_short h = simp (lt-ltb (length f) 6 h)

  module _ (long : 6 ≤ length f) where
    pub front_mark : is_marked f ≡ false → front_number f ≡ 30
    unfolding front_number
    front_mark m = simp (le-ltb (length f) 6 long, m)

    module _ (m : is_marked f ≡ true) where
      pub front_version : (sixteen f 4 ≡ 1 → ⊥) → front_number f ≡ 31
      unfolding front_number
      front_version v = simp (le-ltb (length f) 6 long, m, ne_eqb (sixteen f 4) 1 v)

      module _ (v : sixteen f 4 ≡ 1) where
        pub front_count : 48 < octet f 6 → front_number f ≡ 32
        unfolding front_number
        front_count h = simp (le-ltb (length f) 6 long, m, eq-eqb (sixteen f 4) 1 v, lt-ltb 48 (octet f 6) h)

        module _ (few : octet f 6 ≤ 48) where
          pub front_length : (length f ≡ 6 + 6 * octet f 6 → ⊥) → front_number f ≡ 32
          unfolding front_number
          front_length n = simp (le-ltb (length f) 6 long, m, eq-eqb (sixteen f 4) 1 v, le-ltb 48 (octet f 6) few, ne_eqb (length f) (6 + 6 * octet f 6) n)

          pub front_good : length f ≡ 6 + 6 * octet f 6 → front_number f ≡ 0
          unfolding front_number
          front_good n = simp (le-ltb (length f) 6 long, m, eq-eqb (sixteen f 4) 1 v, le-ltb 48 (octet f 6) few, eq-eqb (length f) (6 + 6 * octet f 6) n)

  -- no number of a front names an entry
  front_unnamed : (e : ℕ) → naming (front_number f) e ≡ 0
  unfolding front_number
  front_unnamed e =
      let names : ℕ → Bool = λ n. eqb n 36 || eqb n 37 in
      let none : names (front_number f) ≡ false =
      not-true _ (ruled_passes (λ (n : ℕ). not (names n)) (λ (n : ℕ). n) (λ (n : ℕ). n) (take 4 (faults f)) 0 (λ n. refl) refl refl) in
      rw none

  -- a front that is refused refuses the file
  pub front_refuses : (n : ℕ) → front_number f ≡ n → (n ≡ 0 → ⊥) → read_plan f ≡ record { number = n; entry = 0; plan = empty }
  unfolding read_plan front_number
  front_refuses n e k =
      ruled_refuses (take 4 (faults f)) n e k PlanRead (refusal f) _
      ∙ (λ i. record { number = n; entry = (sym (ap (λ (m : ℕ). naming m (lowest_bad (listed f))) e) ∙ front_unnamed (lowest_bad (listed f))) i; plan = empty })

-- a plan of some entries, no more than 48, is good unless one of them is bad
pub filled_number : (es : List Entry) → length es ≤ 48 → plan_number (filled_plan es) ≡ cond (some bad es) (lowest_fault es) 0
unfolding plan_number
filled_number es few = simp (le-ltb 48 (length es) few, take-append_seam es (replicate (48 - length es) free))

-- and names the lowest bad one
filled_entry : (es : List Entry) → plan_entry (filled_plan es) ≡ naming (plan_number (filled_plan es)) (lowest_bad es)
unfolding plan_entry
filled_entry es = rw (take-append_seam es (replicate (48 - length es) free))

module _ (f : List ℕ) (good : front_number f ≡ 0) where
  none : NoneHolds (take 4 (faults f))
  unfolding front_number
  none = none_holds (take 4 (faults f)) 0 ((λ t k. omega arith), ((λ t k. omega arith), ((λ t k. omega arith), ((λ t k. omega arith), tt)))) good

  -- a file with a good front has a count of slots and their octets
  pub front_counts : (octet f 6 ≤ 48) × (length f ≡ 6 + 6 * octet f 6)
  front_counts =
      let last = neither _ _ none.1.1.1.0 in
      (ltb-false 48 (octet f 6) last.0, eqb-true (length f) (6 + 6 * octet f 6) (not-false _ last.1))

  -- and gives its plan, or the refusal of that
  pub front_passes : read_plan f ≡ ruled (refusal f) (unless0 (plan_number (filled_plan (listed f))) ∷ []) (good_file f)
  unfolding read_plan
  front_passes =
      ruled_none (refusal f) (take 4 (faults f)) _ none
      ∙ rw (filled_number (listed f) (rw (length_entries (octet f 6) (drop 6 f)) front_counts.0)) (go (some bad (listed f)))
    where
      fault : ℕ
      fault = lowest_fault (listed f)

      go : (b : Bool) → cond b (refusal f fault) (good_file f) ≡ cond (not (eqb (cond b fault 0) 0)) (refusal f (cond b fault 0)) (good_file f)
      go true = rw (ne_eqb fault 0 (λ z. omega (arith, fault_low (listed f))))
      go false = refl

  -- the plan by value as it is read
  module _ (es : List Entry) (e : es ≡ listed f ++ replicate (48 - octet f 6) free) where
    abbrev plan : Plan
    plan = record { count = octet f 6; entries = es }

    same : filled_plan (listed f) ≡ plan
    same = rw (length_entries (octet f 6) (drop 6 f), e)

    by_value : read_plan f ≡ ruled (refusal f) (unless0 (plan_number plan) ∷ []) (record { number = 0; entry = 0; plan = plan })
    by_value = front_passes ∙ ap (λ (p : Plan). ruled (refusal f) (unless0 (plan_number p) ∷ []) (record { number = 0; entry = 0; plan = p })) same

    -- what the plan names is what the file names
    named : naming (plan_number plan) (lowest_bad (listed f)) ≡ plan_entry plan
    named = sym (ap (λ (p : Plan). naming (plan_number p) (lowest_bad (listed f))) same) ∙ sym (filled_entry (listed f)) ∙ ap plan_entry same

    pub plan_refuses : (n s : ℕ) → plan_answer plan ≡ record { number = n; entry = s } → (n ≡ 0 → ⊥) → read_plan f ≡ record { number = n; entry = s; plan = empty }
    plan_refuses n s q k =
        let number : plan_number plan ≡ n = ap (λ (v : Verdict). v.number) q in
        let entry : naming n (lowest_bad (listed f)) ≡ s =
        sym (ap (λ (m : ℕ). naming m (lowest_bad (listed f))) number) ∙ named ∙ ap (λ (v : Verdict). v.entry) q in
        by_value ∙ rw (number, ne_eqb n 0 k) (λ i. record { number = n; entry = entry i; plan = empty })

    pub plan_passes : plan_number plan ≡ 0 → read_plan f ≡ record { number = 0; entry = 0; plan = plan }
    plan_passes q = by_value ∙ rw q
