-- What is planned for the slots of a good plan: it fits its description, is true, and names no false repeat.
use Rattle.laws.proofs.Base.{◌≡◌, refl, ap, ◌∙◌, Bool, true, false, cond, not, bool_beq, ℕ, suc, ◌-◌, ◌<◌, mod-lt, arith, eqb, eqb-true, eqb-false, eq-eqb, ne_eqb, lt-leb}
use Rattle.plan.specs.Paper.{Plan, plan_number, entry_at}
use Rattle.plan_slots.specs.Paper.{has_page, page_at, lowest_at, low15_at}
use Rattle.plan.proofs.GoodPlan.{good_counted, kind_few}
use Rattle.plan_slots.specs.Claims.{Leading}
use Rattle.plan_slots.proofs.Lowest.{leading}
use Rattle.schedule.specs.Paper.{Told, first, again, optional, advised, is_first, false_in}
use Rattle.sender.specs.Paper.{planned_told, new_at, planned}
use Rattle.checker.specs.Paper.{is_true}
use Rattle.delivery.specs.Claims.{Tellable}

module _ (c : Plan) (good : plan_number c ≡ 0) where
  module _ (i : ℕ) (l : i < c.count) where
    abbrev kind : ℕ
    kind = (entry_at c i).kind

    pub planned_tellable : Tellable (planned_told c i)
    unfolding planned_told
    planned_tellable = go (eqb kind 2) (eqb (lowest_at c i) (suc i)) (eqb kind 1) refl
      where
        go : (a b d : Bool) → eqb kind 2 ≡ a → Tellable (cond a (cond b (first (low15_at c i)) (again (lowest_at c i))) (cond d advised optional))
        go true true d e = mod-lt (entry_at c i).id (omega arith)
        go true false d e = let h = leading c i l (eqb-true kind 2 e) in omega (arith, good_counted c good)
        go false b true e = tt
        go false b false e = tt

    beq_own : (b : Bool) → bool_beq b b ≡ true
    beq_own true = refl
    beq_own false = refl

    pub planned_true : (p : Plan) → is_true c p i (planned c p i) ≡ true
    unfolding is_true planned_told new_at
    planned_true p = go (eqb kind 2) (eqb (lowest_at c i) (suc i)) (eqb kind 1) refl refl refl
      where
        go : (a b d : Bool) → eqb kind 2 ≡ a → eqb (lowest_at c i) (suc i) ≡ b → eqb kind 1 ≡ d → is_true c p i (planned c p i) ≡ true
        go true true d e f g = simp (e, f, eq-eqb (low15_at c i) (low15_at c i) refl) (beq_own (not (has_page p (page_at c i))))
        go true false d e f g = simp (e, f, eq-eqb (lowest_at c i) (lowest_at c i) refl) (beq_own (not (has_page p (page_at c i))))
        go false b true e f g = rw (e, g, eqb-true kind 1 g)
        go false b false e f g =
            let zero_kind : kind ≡ 0 = omega (arith, kind_few c good i l, eqb-false kind 2 e, eqb-false kind 1 g) in
            rw (e, g, zero_kind)

    -- the lowest slot of a page is told as a first transmission
    first_planned : (k : ℕ) → Leading c i k → is_first (planned_told c (k - 1)) ≡ true
    unfolding planned_told
    first_planned k h =
        let own : lowest_at c (k - 1) ≡ suc (k - 1) = h.own ∙ omega arith in
        rw (eq-eqb (entry_at c (k - 1)).kind 2 h.page, eq-eqb (lowest_at c (k - 1)) (suc (k - 1)) own)

    -- so what is planned is no false repeat, in any telling that is as planned below the count
    pub planned_repeats : (t : ℕ → Told) → ((j : ℕ) → j < c.count → t j ≡ planned_told c j) → false_in t i (planned_told c i) ≡ false
    unfolding planned_told
    planned_repeats t as-planned = go (eqb kind 2) (eqb (lowest_at c i) (suc i)) (eqb kind 1) refl refl
      where
        go : (a b d : Bool) → eqb kind 2 ≡ a → eqb (lowest_at c i) (suc i) ≡ b
            → false_in t i (cond a (cond b (first (low15_at c i)) (again (lowest_at c i))) (cond d advised optional)) ≡ false
        go true true d e f = refl
        go true false d e f =
            let k = lowest_at c i in
            let h = leading c i l (eqb-true kind 2 e) in
            let other = eqb-false k (suc i) f in
            let told_first : is_first (t (k - 1)) ≡ true = ap is_first (as-planned (k - 1) (omega arith)) ∙ first_planned k h in
            rw (ne_eqb k 0 (omega arith), lt-leb (suc i) k (omega arith), told_first)
        go false b true e f = refl
        go false b false e f = refl
