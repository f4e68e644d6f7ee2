-- What may be told of a slot by what the plans say of it.
use Rattle.laws.proofs.Base.{◌≡◌, ap, ◌∙◌, true, false, not, List, ℕ, suc, ◌≤◌, ◌<◌, arith, eqb, ltb, length, eqb-true, eq-eqb, lt-ltb, ltb-true, sym, get_or}
use Rattle.laws.specs.Upto.{lowest, each}
use Rattle.laws.proofs.Lowest.{lowest_agree}
use Rattle.laws.proofs.Ruled.{ruled_map}
use Rattle.laws.proofs.Tests.{true_or_false}
use Rattle.laws.proofs.Upto.{each_at, each_agree}
use Rattle.schedule.specs.Paper.{Told, first, again, optional, advised, Shown, shown}
use Rattle.plan.specs.Paper.{Plan, plan_number, plans_entry, entry_at}
use Rattle.plan_slots.specs.Inner.{none_planned, said_at, all_planned}
use Rattle.plan_slots.specs.Paper.{Planned, planned_at}
use Rattle.plan.proofs.GoodPlan.{good_counted}
use Rattle.plan.proofs.Plans.{unnamed}
use Rattle.checker_slots.specs.Paper.{failing_rule}
use Rattle.checker_slots.proofs.Rules.{rule_true}
use Rattle.checker_plans.specs.Inner.{beside}
use Rattle.checker.specs as defs
use defs.Paper.{SlotsChecked, is_true, untrue, rule_at, faults, unjudged, judged, check, check_slots}
use defs.Inner.{untrue_to, rule_to, judged_to, compared, slots_beside}

module _ (c p : Plan) (i : ℕ) where
  -- of a slot planned with no page, no description and no new bit is judged by a page
  rule_none : (s : Shown) → eqb (entry_at c i).kind 2 ≡ false → failing_rule (none_planned (entry_at c i).kind) (suc i) s ≡ failing_rule (planned_at c p i) (suc i) s
  rule_none s e = go s.told
    where
      go : (t : Told) → failing_rule (none_planned (entry_at c i).kind) (suc i) (record { new = s.new; told = t }) ≡ failing_rule (planned_at c p i) (suc i) (record { new = s.new; told = t })
      go (first x) = simp e
      go (again x) = simp e
      go optional = simp e
      go advised = simp e

  -- what is said of a slot within the count
  said_page : i < c.count → eqb (entry_at c i).kind 2 ≡ true → said_at c p i ≡ planned_at c p i
  unfolding said_at
  said_page l e = rw (lt-ltb i c.count l, e)

  said_none : i < c.count → eqb (entry_at c i).kind 2 ≡ false → said_at c p i ≡ none_planned (entry_at c i).kind
  unfolding said_at
  said_none l e = rw (lt-ltb i c.count l, e)

  -- such a slot breaks by what is said the rule that it breaks by the plans
  rule_said : i < c.count → (s : Shown) → failing_rule (said_at c p i) (suc i) s ≡ failing_rule (planned_at c p i) (suc i) s
  rule_said l s =
      true_or_false (eqb (entry_at c i).kind 2)
      (λ e. ap (λ (v : Planned). failing_rule v (suc i) s) (said_page l e))
      (λ e. ap (λ (v : Planned). failing_rule v (suc i) s) (said_none l e) ∙ rule_none s e)

module _ (c p : Plan) (m : List ℕ) (few : c.count ≤ 48) where
  -- so by all that is said of a good plan's slots
  rule_to_lem : (i : ℕ) → i < c.count → failing_rule (get_or (all_planned c p) i (none_planned 0)) (suc i) (shown m i) ≡ failing_rule (planned_at c p i) (suc i) (shown m i)
  unfolding all_planned
  rule_to_lem i l =
      ap (λ (v : Planned). failing_rule v (suc i) (shown m i)) (each_at (said_at c p) 48 i (none_planned 0) (omega arith)) ∙ rule_said c p i l (shown m i)

  -- a message is judged as beside the plans themselves
  judged_said : (w : List ℕ) → judged_to c.count (all_planned c p) m w ≡ judged c p m w
  unfolding is_true
  judged_said w = rw (lowests, rules)
    where
      lowests : lowest (untrue_to (all_planned c p) m) c.count ≡ lowest (untrue c p m) c.count
      lowests =
          lowest_agree (untrue_to (all_planned c p) m) (untrue c p m) c.count
          (λ i l. ap not (sym (rule_true _ (suc i) (shown m i)) ∙ ap (λ (r : ℕ). eqb r 0) (rule_to_lem i l) ∙ rule_true _ (suc i) (shown m i)))

      rules : each (rule_to c.count (all_planned c p) m) 48 ≡ each (rule_at c p m) 48
      rules =
          each_agree _ _ 48
          (λ i _. true_or_false (ltb i c.count) (λ e. rw e (rule_to_lem i (ltb-true i c.count e))) (λ e. rw e))

-- what is found once for two plans checks every message as the plans do
pub slots_beside_lem : (c p : Plan) (m : List ℕ) (received : ℕ) (w : List ℕ) → slots_beside (beside c p) m received w ≡ check_slots c p m received w
unfolding beside slots_beside compared check_slots
slots_beside_lem c p m received w =
    true_or_false (eqb (plan_number c) 0)
    (λ e.
    true_or_false (eqb (plan_number p) 0)
    (λ f.
    true_or_false (eqb c.count 0)
    (λ g. simp (e, f, g))
    (λ g.
    let same = judged_said c p m (good_counted c (eqb-true (plan_number c) 0 e)) w in
    let none = unnamed c p (eqb-true (plan_number c) 0 e) (eqb-true (plan_number p) 0 f) in
    simp (e, f, g, same, none)))
    (λ f. simp (e, f)))
    (λ e. simp e)

-- with memory for the verdicts the answer is the checker's
pub slots_checked : (c p : Plan) (m : List ℕ) (received : ℕ) (w : List ℕ) → length w ≡ 48 → (check_slots c p m received w).checked ≡ check c p m received
unfolding check_slots check
slots_checked c p m received w room =
    rw (eq-eqb (length w) 48 room) (ruled_map (λ (l : SlotsChecked). l.checked) (unjudged (plans_entry c p) w) (faults c p m received) (judged c p m w))
