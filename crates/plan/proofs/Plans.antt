-- Which test of two plans answers, and what is named with it, each case on plain facts; and what it means that none does.
use Rattle.laws.proofs.Base.{◌≡◌, refl, sym, ap, ◌∙◌, Bool, true, false, cond, ℕ, ◌≤◌, arith, eqb, eqb-true, ne_eqb, not-false, ◌||◌}
use Rattle.laws.specs.Ruled.{ruled}
use Rattle.laws.proofs.Ruled.{NoneHolds, none_holds, ruled_none, unless0_numbered}
use Rattle.laws.proofs.Outcome.{ruled_refuses}
use Rattle.laws.proofs.Tests.{true_or_false}
use Rattle.plan.specs.Paper.{Plan, Verdict, naming, plan_number, plan_entry, plan_answer, plans_tests, plans_number, plans_entry, plans_answer}
use Rattle.plan.proofs as own
use own.Answers.{plan_few}
use own.GoodPlan.{good_counted}

-- no number names an entry 0
pub naming_none : (n : ℕ) → naming n 0 ≡ 0
naming_none n = go (eqb n 36 || eqb n 37)
  where
    go : (b : Bool) → ◌≡◌ {A = ℕ} (cond b 0 0) 0
    go true = refl
    go false = refl

-- what a number names, it names
pub naming_twice : (n e : ℕ) → naming n (naming n e) ≡ naming n e
naming_twice n e = go (eqb n 36 || eqb n 37)
  where
    go : (b : Bool) → cond b (cond b e 0) 0 ≡ cond b e 0
    go true = refl
    go false = refl

-- a good plan names none
good_unnamed : (p : Plan) → plan_number p ≡ 0 → plan_entry p ≡ 0
unfolding plan_entry
good_unnamed p g = rw g

-- the entry of a plan is named by its number
plan_named : (p : Plan) → naming (plan_number p) (plan_entry p) ≡ plan_entry p
unfolding plan_entry
plan_named p = naming_twice (plan_number p) _

module _ (c p : Plan) where
  pub plans_current : (n e : ℕ) → plan_answer c ≡ record { number = n; entry = e } → (n ≡ 0 → ⊥) → plans_answer c p ≡ record { number = n; entry = e }
  unfolding plans_number plans_entry
  plans_current n e q k = rw (ap (λ (v : Verdict). v.number) q, ap (λ (v : Verdict). v.entry) q, ne_eqb n 0 k)

  module _ (k : plan_number c ≡ 0) where
    pub plans_previous : (n e : ℕ) → plan_answer p ≡ record { number = n; entry = e } → (n ≡ 0 → ⊥) → plans_answer c p ≡ record { number = n; entry = e }
    unfolding plans_number plans_entry
    plans_previous n e q m = rw (k, ap (λ (v : Verdict). v.number) q, ap (λ (v : Verdict). v.entry) q, ne_eqb n 0 m)

    module _ (m : plan_number p ≡ 0) where
      -- good plans name no entry
      pub unnamed : plans_entry c p ≡ 0
      unfolding plans_entry
      unnamed = rw k (good_unnamed p m)

      pub plans_35 : c.count ≡ 0 → plans_answer c p ≡ record { number = 35; entry = 0 }
      unfolding plans_number
      plans_35 n = rw (unnamed, k, m, n)

      pub plans_0 : (c.count ≡ 0 → ⊥) → plans_answer c p ≡ record { number = 0; entry = 0 }
      unfolding plans_number
      plans_0 n = rw (unnamed, k, m, ne_eqb c.count 0 n)

  -- whatever begins with these tests refuses by their number
  pub plans_refuse : (n : ℕ) → plans_number c p ≡ n → (n ≡ 0 → ⊥) → (A : Type 0) (by : ℕ → A) (x : A) → ruled by (plans_tests c p) x ≡ by n
  unfolding plans_number
  plans_refuse n q k = ruled_refuses (plans_tests c p) n q k

  -- the entry of two plans is named by their number
  pub plans_named : naming (plans_number c p) (plans_entry c p) ≡ plans_entry c p
  unfolding plans_number plans_entry
  plans_named =
      true_or_false (eqb (plan_number c) 0)
      (λ e.
      true_or_false (eqb (plan_number p) 0)
      (λ f.
      let none = unnamed (eqb-true (plan_number c) 0 e) (eqb-true (plan_number p) 0 f) in
      ap (naming (plans_number c p)) none ∙ naming_none (plans_number c p) ∙ sym none)
      (λ f. rw (e, f) (plan_named p)))
      (λ e. rw e (plan_named c))

  pub plans_few : plans_entry c p ≤ 48
  unfolding plans_entry
  plans_few = true_or_false (eqb (plan_number c) 0) (λ e. rw e (plan_few p)) (λ e. rw e (plan_few c))

  module _ (z : plans_number c p ≡ 0) where
    none : NoneHolds (plans_tests c p)
    unfolding plans_number
    none = none_holds (plans_tests c p) 0 (unless0_numbered (plan_number c), (unless0_numbered (plan_number p), ((λ t e. omega arith), tt))) z

    -- and goes on where they don't
    pub plans_pass : (A : Type 0) (by : ℕ → A) (x : A) → ruled by (plans_tests c p) x ≡ x
    plans_pass A by x = ruled_none by (plans_tests c p) x none

    -- plans that are not refused have at most 48 slots
    pub plans_counted : c.count ≤ 48
    plans_counted = good_counted c (eqb-true (plan_number c) 0 (not-false _ none.0))

    -- and name no entry
    pub plans_unnamed : plans_entry c p ≡ 0
    plans_unnamed = unnamed (eqb-true (plan_number c) 0 (not-false _ none.0)) (eqb-true (plan_number p) 0 (not-false _ none.1.0))
