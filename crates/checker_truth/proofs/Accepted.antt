-- The checker accepts exactly the truthful messages, and with 40 names the slot that document 01's table says.
use Rattle.laws.proofs.Base.{◌≡◌, refl, sym, ap, ◌∙◌, Bool, true, false, not, ◌&&◌, false≢true, List, ⊎_elim, ℕ, suc, ◌≤◌}
use Rattle.laws.proofs.Base.{◌<◌, arith, eqb, leb, eqb-true, eqb-false, leb-true, eq-eqb, ne_eqb, not-true, not-false}
use Rattle.laws.specs.Upto.{lowest}
use Rattle.laws.proofs.Lowest.{Lowest, none_passes, first_passes, lowest_is, lowest_none}
use Rattle.laws.proofs.Ruled.{Other, others, ruled_passes, unrefused, unless0_numbered}
use Rattle.laws.proofs.Tests.{true_or_false, both}
use Rattle.schedule.specs.Paper.{shown, begin, end, Read, unread, good, in_bounds, read, faults as read_faults}
use Rattle.plan.specs.Paper.{Plan, plan_number, plans_entry}
use Rattle.checker.specs.Paper.{Checked, unchecked, refused_at, untrue_at, untrue, is_true, verdict, faults, check}
use Rattle.checker_truth.specs.Claims.{Truthful, Names, end_differs, slot_untrue, AcceptedExactly, NeverObeyed}
use Rattle.plan.proofs.GoodPlan.{plan_low}
use Rattle.checker_truth.proofs.TrueAt.{true_keeps, keeps_true}

module _ (m : List ℕ) (received : ℕ) where
  -- the reader has no number as high as 40
  number_low : (read m received).number ≤ 39
  unfolding read
  number_low =
      leb-true _ 39 (ruled_passes (λ (n : ℕ). leb n 39) (λ (r : Read). r.number) unread (read_faults m received) (good m) (λ n. refl) refl refl)

  -- a message that is read has a slot
  end_some : (read m received).number ≡ 0 → 0 < end m
  unfolding read
  end_some z =
      let faults : List (Bool × ℕ) = read_faults m received in
      let h = (unrefused (λ (r : Read). r.number) unread (λ n. refl) faults (good m) 0 (others 0 faults refl) z).0 in
      let range = both (leb 1 (begin m)) (leb (begin m) (end m) && leb (end m) 48) (not-false (in_bounds m) h.1.1.1.0) in
      let first = leb-true 1 (begin m) range.0 in
      let order = leb-true (begin m) (end m) (both (leb (begin m) (end m)) (leb (end m) 48) range.1).0 in
      omega arith

-- what a call that is asked first answers by
passed : (a : ℕ) → not (eqb a 0) ≡ false → a ≡ 0
passed a h = eqb-true a 0 (not-false (eqb a 0) h)

module _ (c p : Plan) (m : List ℕ) (received : ℕ) where
  abbrev checked : Checked
  checked = check c p m received

  abbrev true_at : ℕ → Bool
  true_at i = is_true c p i (shown m i)

  abbrev IsTruthful : Type 0
  IsTruthful = Truthful c p m received

  -- neither the plans nor the reader refuse, and the verdict on the slots is the answer
  pub record Answered : Type 0 where
    pub current : plan_number c ≡ 0
    previous : plan_number p ≡ 0
    reads : (read m received).number ≡ 0
    answer : checked ≡ verdict c p m

  -- so where the answer is a number that none of them refuses by
  answered : (n : ℕ) → Other n (faults c p m received) → checked.number ≡ n → Answered
  unfolding check
  answered n others e =
      let w = unrefused (λ (x : Checked). x.number) (refused_at (plans_entry c p)) (λ k. refl) (faults c p m received) (verdict c p m) n others e in
      let h = w.0 in
      record {
        current = passed (plan_number c) h.0;
        previous = passed (plan_number p) h.1.0;
        reads = passed (read m received).number h.1.1.1.0;
        answer = w.1;
      }

  pub others_0 : Other 0 (faults c p m received)
  others_0 =
      (unless0_numbered (plan_number c), (unless0_numbered (plan_number p), ((λ t e. omega arith), (unless0_numbered (read m received).number, tt))))

  pub others_40 : Other 40 (faults c p m received)
  others_40 =
      ((λ t e. omega (arith, plan_low c)), ((λ t e. omega (arith, plan_low p)), ((λ t e. omega arith), ((λ t e. omega (arith, number_low m received)), tt))))

  pub answered_0 : checked.number ≡ 0 → Answered
  answered_0 = answered 0 others_0

  pub answered_40 : checked.number ≡ 40 → Answered
  answered_40 = answered 40 others_40

  -- the verdict on the slots
  data Judged (r : Checked) : Type 0 where
    differs : (end m ≡ c.count → ⊥) → r ≡ untrue_at 0 → Judged r
    all_pass : end m ≡ c.count → ((i : ℕ) → i < c.count → true_at i ≡ true) → r ≡ unchecked 0 → Judged r
    one_fails : (i : ℕ) → end m ≡ c.count → i < c.count → true_at i ≡ false
        → ((j : ℕ) → j < i → true_at j ≡ true) → r ≡ untrue_at (suc i) → Judged r

  verdict_is : Judged (verdict c p m)
  verdict_is =
      true_or_false (eqb (end m) c.count)
      (by_lowest (lowest (untrue c p m) c.count) refl (lowest_is (untrue c p m) c.count))
      (λ e. differs (eqb-false (end m) c.count e) (rw e))
    where
      by_lowest : (s : ℕ) → lowest (untrue c p m) c.count ≡ s → Lowest (untrue c p m) c.count s → eqb (end m) c.count ≡ true → Judged (verdict c p m)
      by_lowest s q (none_passes z none) e =
          all_pass (eqb-true (end m) c.count e) (λ i l. not-false (true_at i) (none i l)) (rw (e, q, z))
      by_lowest s q (first_passes i z l fails lower) e =
          one_fails i (eqb-true (end m) c.count e) l (not-true (true_at i) fails)
          (λ j h. not-false (true_at j) (lower j h)) (rw (e, q, z, ne_eqb (suc i) 0 (λ n. omega arith)))

  truthful : checked.number ≡ 0 → IsTruthful
  truthful z = judge (answered_0 z).answer verdict_is
    where
      a : Answered
      a = answered_0 z

      number : (r : Checked) → checked ≡ r → r.number ≡ 0
      number r e = sym (ap (λ (x : Checked). x.number) e) ∙ z

      judge : {r : Checked} → checked ≡ r → Judged r → IsTruthful
      judge e (differs d q) = absurd (let n = number (untrue_at 0) (e ∙ q) in omega arith)
      judge e (all_pass w all q) =
          record {
            current_good = a.current;
            previous_good = a.previous;
            reads = a.reads;
            ends = omega arith;
            slots = λ i l. true_keeps c p i (shown m i) (all i l);
          }
      judge e (one_fails i w l f lower q) = absurd (let n = number (untrue_at (suc i)) (e ∙ q) in omega arith)

  judged_good : plan_number c ≡ 0 → plan_number p ≡ 0 → (c.count ≡ 0 → ⊥) → (read m received).number ≡ 0 → checked ≡ verdict c p m
  unfolding check
  judged_good g h some r = simp (g, h, ne_eqb c.count 0 some, r)

  accepts : IsTruthful → checked ≡ unchecked 0
  accepts t =
      let some : c.count ≡ 0 → ⊥ = λ z. let l = end_some m received t.reads in let w = t.ends in omega arith in
      let none = lowest_none (untrue c p m) c.count (λ i l. ap not (keeps_true c p i (shown m i) t.current_good l (t.slots i l))) in
      judged_good t.current_good t.previous_good some t.reads ∙ rw (eq-eqb (end m) c.count t.ends, none)

  untruthful : plan_number c ≡ 0 → plan_number p ≡ 0 → (c.count ≡ 0 → ⊥) → (read m received).number ≡ 0 → (IsTruthful → ⊥)
      → checked.number ≡ 40
  untruthful g h some r t = go (judged_good g h some r) verdict_is
    where
      go : {x : Checked} → checked ≡ x → Judged x → checked.number ≡ 40
      go e (differs d q) = rw (e, q)
      go e (all_pass w all q) = absurd (t (truthful (rw (e, q))))
      go e (one_fails i w l f lower q) = rw (e, q)

  names : checked.number ≡ 40 → Names c p m checked.slot
  names z = judge (answered_40 z).answer verdict_is
    where
      slot : (r : Checked) → checked ≡ r → Names c p m r.slot → Names c p m checked.slot
      slot r e w = rw e w

      judge : {r : Checked} → checked ≡ r → Judged r → Names c p m checked.slot
      judge e (differs d q) = slot (untrue_at 0) (e ∙ q) (end_differs d)
      judge e (all_pass w all q) = absurd (let n = sym (ap (λ (x : Checked). x.number) (e ∙ q)) ∙ z in omega arith)
      judge e (one_fails i w l f lower q) =
          slot (untrue_at (suc i)) (e ∙ q)
          (slot_untrue i w
          (record {
            below = l;
            fails = λ t. false≢true (sym f ∙ keeps_true c p i (shown m i) (answered_40 z).current l t);
            lower = λ j h. true_keeps c p j (shown m j) (lower j h);
          }))

  pub accepted_exactly : AcceptedExactly c p m received
  accepted_exactly = record { accepted_truthful = truthful; truthful_accepted = accepts; untruthful_40 = untruthful; untrue_names = names }

  pub never_obeys_a_false_repeat : NeverObeyed c p m received
  never_obeys_a_false_repeat i n w z =
      let repeated = w.again_told in
      ⊎_elim
      (λ e. let never : ◌≡◌ {A = ℕ} 0 1 = cc in omega arith)
      (λ e. let never : ◌≡◌ {A = ℕ} 0 1 = cc in omega arith)
      (((truthful z).slots i w.below).lowest_slot_lem w.page w.lowest)
