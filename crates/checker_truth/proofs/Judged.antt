-- What is left of each slot by a check slot by slot.
use Rattle.laws.proofs.Base.{◌≡◌, refl, sym, ap, ◌∙◌, true, false, cond, bool_beq, false≢true, List, ◌⊎◌, inl, inr, ⊎_elim, ℕ, suc, ◌<◌, arith}
use Rattle.laws.proofs.Base.{◌≤◌, subst, eqb, eqb-true, eqb-false, eq-eqb, ne_eqb, lt-ltb, le-ltb, length, get_or}
use Rattle.laws.specs.Ruled.{ruled}
use Rattle.laws.specs.Upto.{lowest, each}
use Rattle.laws.proofs.Ruled.{Other, Ruling, refuses, passes, ruling, unrefused}
use Rattle.laws.proofs.Upto.{each_at, each_length}
use Rattle.laws.proofs.Tests.{true_or_false, beq_true, beq_refl}
use Rattle.schedule.specs.Paper.{Told, first, again, optional, advised, Shown, shown, end}
use Rattle.plan.specs.Paper.{Plan, plan_number, plans_entry, entry_at}
use Rattle.plan.proofs.GoodPlan.{kind_few, good_counted}
use Rattle.plan_slots.specs.Paper.{lowest_at, low15_at, Planned, planned_at}
use Rattle.plan_slots.proofs.Lowest.{leading}
use Rattle.checker_slots.specs.Paper.{leads, repeats, may_tell, new_for, rule_for, failing_rule}
use Rattle.checker.specs.Paper.{Checked, SlotsChecked, untrue, verdict, unjudged, judged, faults, rule_at, check, check_slots}
use Rattle.checker.proofs.Telling.{slots_checked}
use Rattle.checker_truth.specs.Claims.{BySlot, SlotsJudged, JudgesSlots, LowestSlot, LaterSlot, NewBit, Judged, all_hold, lowest_fails, later_fails, optional_fails, advised_fails, new_fails}
use Rattle.checker_truth.proofs.TrueAt.{leads_is, repeats_is, may_tells, tells_may, lowest_tells, later_tells, optional_tells, advised_tells, right_new}
use Rattle.checker_truth.proofs.Accepted.{others_0, others_40, answered_0, answered_40}

module _ (c p : Plan) (i : ℕ) (s : Shown) where
  abbrev v : Planned
  v = planned_at c p i

  abbrev kind : ℕ
  kind = (entry_at c i).kind

  -- a new bit that keeps its rule is the one that belongs to what is told
  new_right : NewBit c p i s → s.new ≡ new_for v s.told
  new_right n = go s.told refl
    where
      go : (t : Told) → s.told ≡ t → s.new ≡ new_for v t
      go (first x) e = n.new_first x e
      go (again k) e = n.new_repeat k e
      go optional e = n.new_optional e
      go advised e = n.new_advised e

  -- what may be told keeps the first four rules
  module _ (may : may_tell v (suc i) s.told ≡ true) where
    told_judged : Judged c p i s (cond (bool_beq s.new (new_for v s.told)) 0 5)
    told_judged =
        let w = may_tells c p i s.told may in
        let one = lowest_tells c p i s.told w in
        let two = later_tells c p i s.told w in
        let three = optional_tells c p i s.told w in
        let four = advised_tells c p i s.told w in
        true_or_false (bool_beq s.new (new_for v s.told))
        (λ e.
        rw e
        (all_hold
        (record { lowest_slot_lem = one; later_slot = two; planned_optional = three; planned_advised = four; new_bit_lem = right_new c p i s (beq_true s.new (new_for v s.told) e) })))
        (λ e. rw e (new_fails one two three four (λ n. false≢true (sym e ∙ rw (new_right n) (beq_refl (new_for v s.told))))))

  -- and what may not breaks the one of them that is the slot's
  module _ (g : plan_number c ≡ 0) (l : i < c.count) (not_told : may_tell v (suc i) s.told ≡ false) where
    never : (t : Told) → s.told ≡ t → may_tell v (suc i) t ≡ true → ⊥
    never t e may = false≢true (sym not_told ∙ rw e may)

    rule_judged : Judged c p i s (rule_for v (suc i))
    rule_judged =
        true_or_false (leads v (suc i))
        (λ e.
        let w = leads_is c p i e in
        rw e
        (lowest_fails
        (λ one.
        ⊎_elim
        (λ q. never (first (low15_at c i)) q (tells_may c p i (first (low15_at c i)) (w.0, w.1, refl)))
        (λ q. never advised q (tells_may c p i advised (inr w.0)))
        (one w.0 w.1))))
        (λ e. rw e (not_lowest e))
      where
        not_lowest : leads v (suc i) ≡ false → Judged c p i s (cond (repeats v (suc i)) 2 (cond (eqb kind 0) 3 4))
        not_lowest e =
            let other : kind ≡ 2 → lowest_at c i ≡ suc i → ⊥ = λ k o. false≢true (sym e ∙ rw (eq-eqb kind 2 k, eq-eqb (lowest_at c i) (suc i) o)) in
            let one : LowestSlot c i s = λ k o. absurd (other k o) in
            true_or_false (repeats v (suc i))
            (λ f.
            let w = repeats_is c p i f in
            let reaches = (leading c i l w.0).reaches in
            let unlike = w.1 in
            rw f
            (later_fails one
            (λ two.
            ⊎_elim
            (λ q. never (again (lowest_at c i)) q (tells_may c p i (again (lowest_at c i)) (w.0, w.1, refl)))
            (λ o.
            ⊎_elim
            (λ q. never advised q (tells_may c p i advised (inr w.0)))
            (λ q. never optional q (tells_may c p i optional (inr w)))
            o)
            (two w.0 (omega arith)))))
            (λ f. rw f (no_page one (λ k. false≢true (sym f ∙ rw (eq-eqb kind 2 k, ne_eqb (lowest_at c i) (suc i) (other k))))))
          where
            no_page : LowestSlot c i s → (kind ≡ 2 → ⊥) → Judged c p i s (cond (eqb kind 0) 3 4)
            no_page one none =
                let two : LaterSlot c i s = λ k o. absurd (none k) in
                true_or_false (eqb kind 0)
                (λ z.
                let k = eqb-true kind 0 z in
                rw z (optional_fails one two (λ three. never optional (three k) (tells_may c p i optional (inl k)))))
                (λ z.
                let some = eqb-false kind 0 z in
                let few = kind_few c g i l in
                let k : kind ≡ 1 = omega arith in
                rw z (advised_fails one two (λ q. absurd (some q)) (λ four. never advised (four k) (tells_may c p i advised (inl k)))))

  -- in a good plan the rule that fails at a slot is the first of the list that does
  pub slot_judged : plan_number c ≡ 0 → i < c.count → Judged c p i s (failing_rule v (suc i) s)
  slot_judged g l =
      true_or_false (may_tell v (suc i) s.told) (λ e. rw e (told_judged e)) (λ e. rw e (rule_judged g l e))

module _ (c p : Plan) (m : List ℕ) (received : ℕ) (w : List ℕ) where
  abbrev left : SlotsChecked
  left = check_slots c p m received w

  abbrev by : ℕ → SlotsChecked
  by = unjudged (plans_entry c p) w

  no_room : (length w ≡ 48 → ⊥) → left ≡ unjudged 0 w 15
  unfolding check_slots
  no_room e = rw (ne_eqb (length w) 48 e)

  module _ (room : length w ≡ 48) where
    past_length : left ≡ ruled by (faults c p m received) (judged c p m w)
    unfolding check_slots
    past_length = rw (eq-eqb (length w) 48 room)

    -- an answer by a number that no refusal has
    judged_by : (n : ℕ) → Other n (faults c p m received) → (check c p m received).number ≡ n → left ≡ judged c p m w
    judged_by n others e =
        past_length
        ∙ (unrefused (λ (l : SlotsChecked). l.checked.number) by (λ k. refl) (faults c p m received) (judged c p m w) n others
        (ap (λ (l : SlotsChecked). l.checked.number) (sym past_length) ∙ ap (λ (k : Checked). k.number) (slots_checked c p m received w room) ∙ e)).1

    module _ (b : BySlot c m (check c p m received)) where
      good : plan_number c ≡ 0
      good = ⊎_elim (λ z. (answered_0 c p m received z).current) (λ z. (answered_40 c p m received z).current) b.0

      verdicts : left.verdicts ≡ each (rule_at c p m) 48
      verdicts =
          let whole = ⊎_elim (judged_by 0 (others_0 c p m received)) (judged_by 40 (others_40 c p m received)) b.0 in
          ap (λ (l : SlotsChecked). l.verdicts) whole ∙ rw (eq-eqb (end m) c.count b.1)

      at : (i : ℕ) → i < 48 → get_or left.verdicts i 0 ≡ rule_at c p m i
      at i l = ap (λ (x : List ℕ). get_or x i 0) verdicts ∙ each_at (rule_at c p m) 48 i 0 l

      within : (i : ℕ) → i < c.count → Judged c p i (shown m i) (get_or left.verdicts i 0)
      within i l =
          let few = good_counted c good in
          subst (Judged c p i (shown m i)) (sym (at i (omega arith) ∙ rw (lt-ltb i c.count l))) (slot_judged c p i (shown m i) good l)

      past : (i : ℕ) → i < 48 → c.count ≤ i → get_or left.verdicts i 0 ≡ 0
      past i l h = at i l ∙ rw (le-ltb i c.count h)

    -- the verdicts are all written, or none is
    data Kept : Type 0 where
      kept : left.verdicts ≡ w → Kept
      written : BySlot c m (check c p m received) → Kept

    keeps : Kept
    keeps = go (ruling by (faults c p m received) (judged c p m w))
      where
        go : Ruling by (faults c p m received) (judged c p m w) (ruled by (faults c p m received) (judged c p m w)) → Kept
        go (refuses n a q) = kept (ap (λ (l : SlotsChecked). l.verdicts) (past_length ∙ q))
        go (passes h q) =
            true_or_false (eqb (end m) c.count)
            (λ e. written (number (past_length ∙ q) e, eqb-true (end m) c.count e))
            (λ e. kept (ap (λ (l : SlotsChecked). l.verdicts) (past_length ∙ q) ∙ rw e))
          where
            number : left ≡ judged c p m w → eqb (end m) c.count ≡ true → ((check c p m received).number ≡ 0) ⊎ ((check c p m received).number ≡ 40)
            number x e =
                let same : (check c p m received).number ≡ (verdict c p m).number =
                sym (ap (λ (k : Checked). k.number) (slots_checked c p m received w room)) ∙ ap (λ (l : SlotsChecked). l.checked.number) x in
                true_or_false (eqb (lowest (untrue c p m) c.count) 0) (λ f. inl (same ∙ rw (e, f))) (λ f. inr (same ∙ rw (e, f)))

    kept_or_written : ((BySlot c m (check c p m received) → ⊥) → left.verdicts ≡ w) × (length left.verdicts ≡ 48)
    kept_or_written = go keeps
      where
        go : Kept → ((BySlot c m (check c p m received) → ⊥) → left.verdicts ≡ w) × (length left.verdicts ≡ 48)
        go (kept e) = ((λ n. e), ap (λ (x : List ℕ). length x) e ∙ room)
        go (written b) = ((λ n. absurd (n b)), ap (λ (x : List ℕ). length x) (verdicts b) ∙ each_length (rule_at c p m) 48)

    judges : SlotsJudged c p m received w
    judges =
        record {
          answer = slots_checked c p m received w room;
          within = within;
          past = past;
          many = kept_or_written.1;
          untouched = kept_or_written.0;
        }

  pub slots_judged : JudgesSlots c p m received w
  slots_judged = record { judges = judges; no_room = no_room }
