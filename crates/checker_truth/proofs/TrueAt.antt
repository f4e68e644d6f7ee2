-- The test of a slot decides the rules of document 01's list.
use Rattle.laws.proofs.Base.{◌≡◌, refl, ap, ◌∙◌, true, not, bool_beq, ◌⊎◌, inl, inr, ⊎_elim, ℕ, suc, ◌<◌, arith, eqb, eqb-true, eqb-false, eq-eqb, ne_eqb, not-true}
use Rattle.laws.proofs.Tests.{beq_true, beq_refl, both, either}
use Rattle.laws.proofs.Upto.{below_suc}
use Rattle.schedule.specs.Paper.{Told, first, again, optional, advised, Shown}
use Rattle.plan.specs.Paper.{Plan, plan_number, entry_at}
use Rattle.plan_slots.specs.Paper.{lowest_at, low15_at, Planned, planned_at}
use Rattle.plan_slots.proofs.Lowest.{leading}
use Rattle.checker_slots.specs.Paper.{leads, repeats, may_tell, new_for}
use Rattle.checker.specs.Paper.{is_true}
use Rattle.checker_truth.specs.Claims.{NewBit, TrueAt}
use Rattle.plan.proofs.GoodPlan.{kind_few}

module _ (c p : Plan) (i : ℕ) where
  -- what the plans say of the slot
  abbrev v : Planned
  v = planned_at c p i

  abbrev kind : ℕ
  kind = (entry_at c i).kind

  abbrev lowest : ℕ
  lowest = lowest_at c i

  abbrev low15 : ℕ
  low15 = low15_at c i

  -- what is known of a slot of which a description may be told
  abbrev Tells : Told → Type 0
  Tells (first x) = (kind ≡ 2) × (lowest ≡ suc i) × (x ≡ low15)
  Tells (again n) = (kind ≡ 2) × (lowest ≡ suc i → ⊥) × (n ≡ lowest)
  Tells optional = (kind ≡ 0) ⊎ ((kind ≡ 2) × (lowest ≡ suc i → ⊥))
  Tells advised = (kind ≡ 1) ⊎ (kind ≡ 2)

  pub leads_is : leads v (suc i) ≡ true → (kind ≡ 2) × (lowest ≡ suc i)
  leads_is e =
      let b = both (eqb kind 2) (eqb lowest (suc i)) e in
      (eqb-true kind 2 b.0, eqb-true lowest (suc i) b.1)

  pub repeats_is : repeats v (suc i) ≡ true → (kind ≡ 2) × (lowest ≡ suc i → ⊥)
  repeats_is e =
      let b = both (eqb kind 2) (not (eqb lowest (suc i))) e in
      (eqb-true kind 2 b.0, eqb-false lowest (suc i) (not-true (eqb lowest (suc i)) b.1))

  pub may_tells : (t : Told) → may_tell v (suc i) t ≡ true → Tells t
  may_tells (first x) e =
      let b = both (leads v (suc i)) (eqb x low15) e in
      let l = leads_is b.0 in
      (l.0, l.1, eqb-true x low15 b.1)
  may_tells (again n) e =
      let b = both (repeats v (suc i)) (eqb n lowest) e in
      let l = repeats_is b.0 in
      (l.0, l.1, eqb-true n lowest b.1)
  may_tells optional e =
      ⊎_elim (λ a. inl (eqb-true kind 0 a)) (λ b. inr (repeats_is b)) (either (eqb kind 0) (repeats v (suc i)) e)
  may_tells advised e =
      ⊎_elim (λ a. inl (eqb-true kind 1 a)) (λ b. inr (eqb-true kind 2 b))
      (either (eqb kind 1) (eqb kind 2) e)

  pub tells_may : (t : Told) → Tells t → may_tell v (suc i) t ≡ true
  tells_may (first x) w =
      simp (eq-eqb kind 2 w.0, eq-eqb lowest (suc i) w.1, eq-eqb x low15 w.2)
  tells_may (again n) w =
      simp (eq-eqb kind 2 w.0, ne_eqb lowest (suc i) w.1, eq-eqb n lowest w.2)
  tells_may optional (inl k) = simp (eq-eqb kind 0 k)
  tells_may optional (inr w) = rw (w.0, ne_eqb lowest (suc i) w.1)
  tells_may advised (inl k) = simp (eq-eqb kind 1 k)
  tells_may advised (inr k) = rw k

  pub lowest_tells : (t : Told) → Tells t → kind ≡ 2 → lowest ≡ suc i → (t ≡ first low15) ⊎ (t ≡ advised)
  lowest_tells (first x) w k l = inl (ap first w.2)
  lowest_tells (again n) w k l = absurd (w.1 l)
  lowest_tells optional (inl z) k l = absurd (omega arith)
  lowest_tells optional (inr w) k l = absurd (w.1 l)
  lowest_tells advised w k l = inr refl

  pub later_tells : (t : Told) → Tells t → kind ≡ 2 → lowest < suc i → (t ≡ again lowest) ⊎ ((t ≡ advised) ⊎ (t ≡ optional))
  later_tells (first x) w k l = absurd (omega arith)
  later_tells (again n) w k l = inl (ap again w.2)
  later_tells optional w k l = inr (inr refl)
  later_tells advised w k l = inr (inl refl)

  pub optional_tells : (t : Told) → Tells t → kind ≡ 0 → t ≡ optional
  optional_tells (first x) w k = absurd (omega arith)
  optional_tells (again n) w k = absurd (omega arith)
  optional_tells optional w k = refl
  optional_tells advised (inl z) k = absurd (omega arith)
  optional_tells advised (inr z) k = absurd (omega arith)

  pub advised_tells : (t : Told) → Tells t → kind ≡ 1 → t ≡ advised
  advised_tells (first x) w k = absurd (omega arith)
  advised_tells (again n) w k = absurd (omega arith)
  advised_tells optional (inl z) k = absurd (omega arith)
  advised_tells optional (inr w) k = absurd (omega arith)
  advised_tells advised w k = refl

  module _ (s : Shown) where
    -- the new bit that belongs to what is told keeps its rule
    pub right_new : s.new ≡ new_for v s.told → NewBit c p i s
    right_new new =
        record {
          new_advised = λ q. new ∙ ap (new_for v) q;
          new_optional = λ q. new ∙ ap (new_for v) q;
          new_first = λ x q. new ∙ ap (new_for v) q;
          new_repeat = λ n q. new ∙ ap (new_for v) q;
        }

    -- a slot that passes the test keeps every rule
    pub true_keeps : is_true c p i s ≡ true → TrueAt c p i s
    unfolding is_true
    true_keeps e =
        let b = both (may_tell v (suc i) s.told) (bool_beq s.new (new_for v s.told)) e in
        let w = may_tells s.told b.0 in
        let new = beq_true s.new (new_for v s.told) b.1 in
        record {
          lowest_slot_lem = lowest_tells s.told w;
          later_slot = later_tells s.told w;
          planned_optional = optional_tells s.told w;
          planned_advised = advised_tells s.told w;
          new_bit_lem = right_new new;
        }

    passes : (t : Told) → s.told ≡ t → Tells t → s.new ≡ new_for v t → is_true c p i s ≡ true
    unfolding is_true
    passes t e w n = rw (e, n, tells_may t w) (beq_refl (new_for v t))

    module _ (g : plan_number c ≡ 0) (l : i < c.count) (t : TrueAt c p i s) where
      page_passes : kind ≡ 2 → is_true c p i s ≡ true
      page_passes k =
          let reaches = (leading c i l k).reaches in
          let near : lowest < suc (suc i) = omega arith in
          ⊎_elim
          (λ own.
          ⊎_elim
          (λ e. passes (first low15) e (k, own, refl) (t.new_bit_lem.new_first low15 e))
          (λ e. passes advised e (inr k) (t.new_bit_lem.new_advised e))
          (t.lowest_slot_lem k own))
          (λ below.
          let other : lowest ≡ suc i → ⊥ = λ q. omega arith in
          ⊎_elim
          (λ e. passes (again lowest) e (k, other, refl) (t.new_bit_lem.new_repeat lowest e))
          (λ o.
          ⊎_elim
          (λ e. passes advised e (inr k) (t.new_bit_lem.new_advised e))
          (λ e. passes optional e (inr (k, other)) (t.new_bit_lem.new_optional e))
          o)
          (t.later_slot k below))
          (below_suc near)

      -- in a good plan a slot that keeps every rule passes the test
      pub keeps_true : is_true c p i s ≡ true
      keeps_true =
          ⊎_elim page_passes
          (λ low.
          ⊎_elim
          (λ k. let e = t.planned_advised k in passes advised e (inl k) (t.new_bit_lem.new_advised e))
          (λ least. let k : kind ≡ 0 = omega arith in let e = t.planned_optional k in passes optional e (inl k) (t.new_bit_lem.new_optional e))
          (below_suc low))
          (below_suc (kind_few c g i l))
