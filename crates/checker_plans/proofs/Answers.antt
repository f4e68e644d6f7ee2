-- Whether the plans are refused or say something, on plain facts.
use Rattle.laws.proofs.Base.{◌≡◌, refl, sym, ap, ◌∙◌, List, ℕ}
use Rattle.plan.specs.Paper.{Plan, Verdict, plans_number, plans_entry, plans_answer}
use Rattle.plan.proofs.Plans.{plans_refuse, plans_pass}
use Rattle.plan_slots.specs.Paper.{Planned}
use Rattle.plan_slots.specs.Inner.{all_planned}
use Rattle.checker_plans.specs.Inner.{Plans, unsaid, beside}

module _ (c p : Plan) where
  pub plans_refused : (n e : ℕ) → plans_answer c p ≡ record { number = n; entry = e } → (n ≡ 0 → ⊥) → unsaid e n ≡ beside c p
  unfolding beside
  plans_refused n e q k =
      ap (λ (s : ℕ). unsaid s n) (sym (ap (λ (v : Verdict). v.entry) q))
      ∙ sym (plans_refuse c p n (ap (λ (v : Verdict). v.number) q) k Plans (unsaid (plans_entry c p)) _)

  -- the same of what answers the plans, so that the check finds it for any code that hands a refusal on
  pub refused_unsaid : (plans_number c p ≡ 0 → ⊥) → beside c p ≡ unsaid (plans_entry c p) (plans_number c p)
  refused_unsaid k = sym (plans_refused (plans_number c p) (plans_entry c p) refl k)

  pub good_said : plans_number c p ≡ 0 → (v : List Planned) → v ≡ all_planned c p → record { number = 0; entry = 0; count = c.count; said = v } ≡ beside c p
  unfolding beside
  good_said z v e = rw e (sym (plans_pass c p z Plans (unsaid (plans_entry c p)) _))
