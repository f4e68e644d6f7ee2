-- Each case of the writer's order, and what is named in it, on plain facts; and what its acceptance means.
use Rattle.laws.proofs.Base.{◌≡◌, refl, sym, ap, ◌∙◌, and-true, List, ℕ, ◌≤◌, ◌<◌, arith, length, drop, leb, eq-eqb, ne_eqb, le-leb, eqb-true, leb-true, ltb-false, not-false}
use Rattle.laws.specs.Ruled.{ruled}
use Rattle.laws.proofs.Ruled.{ruled_map, none_holds, ruled_none, unless0_numbered}
use Rattle.laws.proofs.Tests.{both}
use Rattle.plan.specs.Paper.{Plan, Verdict, naming, plan_number, plans_tests, plans_number, plans_entry, plans_answer}
use Rattle.plan.proofs.Plans.{naming_none, plans_refuse, plans_pass, plans_counted, plans_named, plans_unnamed}
use Rattle.schedule.specs.Paper.{Shown}
use Rattle.sender_message.specs.Paper.{descriptions, MessageLeft, unwritten, write_message}
use Rattle.sender_message.proofs.Agree.{write_agree}
use Rattle.sender.specs as defs
use defs.Paper.{planned, message, faults, write, write_schedule}

module _ (c p : Plan) where
  module _ (b : ℕ) (o : List ℕ) where
    write_15 : (length o ≡ 88 → ⊥) → write c p b o ≡ unwritten o 15
    unfolding write
    write_15 e = simp (ne_eqb (length o) 88 e)

    -- what is left, and what its number names
    leaves : (w : MessageLeft) → write c p b o ≡ w → write_schedule c p b o ≡ record { left = w; entry = naming w.number (plans_entry c p) }
    leaves w e = ap (λ (x : MessageLeft). record { left = x; entry = naming x.number (plans_entry c p) }) e

    pub leaves_15 : (length o ≡ 88 → ⊥) → write_schedule c p b o ≡ record { left = unwritten o 15; entry = 0 }
    leaves_15 e = leaves (unwritten o 15) (write_15 e)

    module _ (e : length o ≡ 88) where
      -- past the output's test those of the plans come, and then the message's
      past_output : write c p b o ≡ ruled (unwritten o) (plans_tests c p) (ruled (unwritten o) (drop 4 (faults c p b o)) (message c p b))
      unfolding write
      past_output = rw (eq-eqb (length o) 88 e)

      write_plans : (n : ℕ) → plans_number c p ≡ n → (n ≡ 0 → ⊥) → write c p b o ≡ unwritten o n
      write_plans n q k = past_output ∙ plans_refuse c p n q k MessageLeft (unwritten o) _

      pub leaves_plans : (n s : ℕ) → plans_answer c p ≡ record { number = n; entry = s } → (n ≡ 0 → ⊥)
          → write_schedule c p b o ≡ record { left = unwritten o n; entry = s }
      leaves_plans n s q k =
          let number : plans_number c p ≡ n = ap (λ (v : Verdict). v.number) q in
          let entry : naming n (plans_entry c p) ≡ s =
          sym (ap (λ (m : ℕ). naming m (plans_entry c p)) number) ∙ plans_named c p ∙ ap (λ (v : Verdict). v.entry) q in
          leaves (unwritten o n) (write_plans n number k) ∙ (λ i. record { left = unwritten o n; entry = entry i })

      -- the same of what answers the plans, so that the check finds it for any code that hands a refusal on
      pub plans_refused : (plans_number c p ≡ 0 → ⊥) → write_schedule c p b o ≡ record { left = unwritten o (plans_number c p); entry = plans_entry c p }
      plans_refused k = leaves_plans (plans_number c p) (plans_entry c p) refl k

      -- past those of the plans, the writing of what is planned
      write_planned : plans_number c p ≡ 0 → write c p b o ≡ write_message b (planned c p) c.count o
      unfolding write_message
      write_planned z =
          past_output ∙ plans_pass c p z MessageLeft (unwritten o) _
          ∙ rw (eq-eqb (length o) 88 e, le-leb c.count 48 (plans_counted c p z), and-true (leb b c.count))

      pub leaves_planned : plans_number c p ≡ 0 → write_schedule c p b o ≡ record { left = write_message b (planned c p) c.count o; entry = 0 }
      leaves_planned z =
          let w = write_message b (planned c p) c.count o in
          let entry : naming w.number (plans_entry c p) ≡ 0 = ap (naming w.number) (plans_unnamed c p z) ∙ naming_none w.number in
          leaves w (write_planned z) ∙ (λ i. record { left = w; entry = entry i })

      -- what is left where what is told of each slot is as planned
      pub leaves_message : plans_number c p ≡ 0 → (told : ℕ → Shown) → ((i : ℕ) → i < c.count → told i ≡ planned c p i)
          → (w : MessageLeft) → w ≡ write_message b told c.count o → record { left = w; entry = 0 } ≡ write_schedule c p b o
      leaves_message z told same w q =
          ap (λ (x : MessageLeft). record { left = x; entry = 0 }) (q ∙ write_agree told (planned c p) c.count same b o) ∙ sym (leaves_planned z)

    -- what the writer is given where it does not refuse, and what it does
    pub record Accepts : Type 0 where
      pub room : length o ≡ 88
      pub current : plan_number c ≡ 0
      pub previous : plan_number p ≡ 0
      pub one : 1 ≤ b
      pub within : b ≤ c.count
      pub few : length (descriptions (planned c p) c.count) ≤ 80
      pub writes : write c p b o ≡ message c p b

    pub accepts : (write c p b o).number ≡ 0 → Accepts
    unfolding write
    accepts z =
        let ts = faults c p b o in
        let h =
        none_holds ts 0
        ((λ t e. omega arith), (unless0_numbered (plan_number c), (unless0_numbered (plan_number p), ((λ t e. omega arith), ((λ t e. omega arith), ((λ t e. omega arith), tt))))))
        (sym (ruled_map (λ (w : MessageLeft). w.number) (unwritten o) ts (message c p b)) ∙ z) in
        let range = both (leb 1 b) (leb b c.count) (not-false _ h.1.1.1.1.0) in
        record {
          room = eqb-true (length o) 88 (not-false _ h.0);
          current = eqb-true (plan_number c) 0 (not-false _ h.1.0);
          previous = eqb-true (plan_number p) 0 (not-false _ h.1.1.0);
          one = leb-true 1 b range.0;
          within = leb-true b c.count range.1;
          few = ltb-false 80 _ h.1.1.1.1.1.0;
          writes = ruled_none (unwritten o) ts (message c p b) h;
        }
