-- What the call that checks slot by slot returns and leaves follows from what the checker answers.
use Rattle.laws.proofs.Base.{◌≡◌, refl, sym, ap, ◌∙◌, List, inl, inr, ⊎_elim, ℕ, ◌%◌, ◌/◌, ◌<◌, arith, ltb, length}
use Rattle.laws.proofs.Base.{ltb-true, lt-ltb, eq-eqb}
use Rattle.laws.specs.Ruled.{ruled}
use Rattle.laws.proofs.Ruled.{NoneHolds, Other, Ruling, refuses, passes, ruling, ruled_passes, ruled_none, unrefused, unless0_numbered}
use Rattle.schedule.specs.Paper.{end}
use Rattle.plan.specs.Paper.{lowest_fault}
use Rattle.plan.proofs.Answers.{fault_low}
use Rattle.plan_read.specs.Paper.{PlanRead, listed, refusal, good_file, read_plan, faults}
use Rattle.checker.specs.Paper.{Checked, refused_at, SlotsChecked, unjudged, check, check_slots}
use Rattle.checker_truth.specs.Claims.{Names, end_differs, slot_untrue, BySlot, SlotsJudged}
use Rattle.checker_truth.proofs.Accepted.{accepted_exactly}
use Rattle.checker_truth.proofs.Judged.{slots_judged}
use Rattle.plan_calls.specs.Paper.{file_faults, files_entry, checked_beside, slots_beside_files, check_schedule_call, check_slots_call}
use Rattle.plan_calls.proofs.Answers.{slots_returned, refuses_verdicts}
use Rattle.calls_unpacked.proofs.Unpacked.{unpacked_check_schedule}
use Rattle.calls_obeyed.specs.Claims.{plan_in, BySlotCall, CallJudges, CallsJudge}

-- no file is refused by a number as high as 40
file_low : (f : List ℕ) → (read_plan f).number < 40
unfolding read_plan
file_low f =
    ltb-true _ 40
    (ruled_passes (λ (n : ℕ). ltb n 40) (λ (r : PlanRead). r.number) (refusal f) (faults f) (good_file f) (λ n. refl)
    (rw (lt-ltb (lowest_fault (listed f)) 40 (omega (arith, fault_low (listed f))))) refl)

module _ (c p m : List ℕ) (received : ℕ) where
  -- the checker's answer for the files, and that for their plans
  abbrev told : Checked
  told = checked_beside c p m received

  abbrev planned : Checked
  planned = check (plan_in c) (plan_in p) m received

  -- a number that no file is refused by is that for the plans
  past_files : (n : ℕ) → Other n (file_faults c p) → told.number ≡ n → NoneHolds (file_faults c p) × (told ≡ planned)
  past_files n others e = unrefused (λ (k : Checked). k.number) (refused_at (files_entry c p)) (λ k. refl) (file_faults c p) planned n others e

  -- 40 comes with a slot exactly where End is as counted
  counted : planned.number ≡ 40 → (planned.slot ≡ 0 → ⊥) → end m ≡ (plan_in c).count
  counted z some = go planned.slot refl ((accepted_exactly (plan_in c) (plan_in p) m received).untrue_names z)
    where
      go : (s : ℕ) → planned.slot ≡ s → Names (plan_in c) (plan_in p) m s → end m ≡ (plan_in c).count
      go _ e (end_differs d) = absurd (some e)
      go _ e (slot_untrue i q l) = q

  with_slot : planned.number ≡ 40 → end m ≡ (plan_in c).count → planned.slot ≡ 0 → ⊥
  with_slot z same none = go planned.slot refl ((accepted_exactly (plan_in c) (plan_in p) m received).untrue_names z)
    where
      go : (s : ℕ) → planned.slot ≡ s → Names (plan_in c) (plan_in p) m s → ⊥
      go _ e (end_differs d) = d same
      go _ e (slot_untrue i q l) = omega (arith, e, none)

  -- so a call judges slot by slot where the checker does for the plans of good files
  by_slot : BySlotCall (check_schedule_call c p m received) → NoneHolds (file_faults c p) × BySlot (plan_in c) m planned
  by_slot b = ⊎_elim accepted untrue b
    where
      accepted : check_schedule_call c p m received % 256 ≡ 0 → NoneHolds (file_faults c p) × BySlot (plan_in c) m planned
      accepted z =
          let w = past_files 0 (unless0_numbered (read_plan c).number, (unless0_numbered (read_plan p).number, tt)) (sym (unpacked_check_schedule c p m received).0 ∙ z) in
          let number = sym (ap (λ (k : Checked). k.number) w.1) ∙ sym (unpacked_check_schedule c p m received).0 ∙ z in
          (w.0, (inl number, ((accepted_exactly (plan_in c) (plan_in p) m received).accepted_truthful number).ends))

      untrue : (check_schedule_call c p m received % 256 ≡ 40) × (check_schedule_call c p m received / 256 ≡ 0 → ⊥) → NoneHolds (file_faults c p) × BySlot (plan_in c) m planned
      untrue z =
          let u = unpacked_check_schedule c p m received in
          let w = past_files 40 ((λ t e. omega (arith, file_low c)), ((λ t e. omega (arith, file_low p)), tt)) (sym u.0 ∙ z.0) in
          let number = sym (ap (λ (k : Checked). k.number) w.1) ∙ sym u.0 ∙ z.0 in
          (w.0, (inr number, counted number (λ e. z.1 (u.1 ∙ ap (λ (k : Checked). k.slot) w.1 ∙ e))))

  by_slot_call : NoneHolds (file_faults c p) → BySlot (plan_in c) m planned → BySlotCall (check_schedule_call c p m received)
  by_slot_call good b =
      let u = unpacked_check_schedule c p m received in
      let same : told ≡ planned = ruled_none (refused_at (files_entry c p)) (file_faults c p) planned good in
      ⊎_elim
      (λ z. inl (u.0 ∙ ap (λ (k : Checked). k.number) same ∙ z))
      (λ z. inr (u.0 ∙ ap (λ (k : Checked). k.number) same ∙ z, (λ e. with_slot z b.1 (sym (ap (λ (k : Checked). k.slot) same) ∙ sym u.1 ∙ e))))
      b.0

  module _ (w : List ℕ) where
    module _ (room : length w ≡ 48) where
      abbrev judged : SlotsJudged (plan_in c) (plan_in p) m received w
      judged = (slots_judged (plan_in c) (plan_in p) m received w).judges room

      abbrev by : ℕ → SlotsChecked
      by = unjudged (files_entry c p) w

      abbrev left : SlotsChecked
      left = check_slots (plan_in c) (plan_in p) m received w

      past_length : slots_beside_files c p m received w ≡ ruled by (file_faults c p) left
      past_length = rw (eq-eqb (length w) 48 room)

      memory : NoneHolds (file_faults c p) → (check_slots_call c p m received w).memory ≡ left.verdicts
      memory good = ap (λ (l : SlotsChecked). l.verdicts) (past_length ∙ ruled_none by (file_faults c p) left good)

      untouched : (BySlotCall (check_schedule_call c p m received) → ⊥) → (check_slots_call c p m received w).memory ≡ w
      untouched n = ap (λ (l : SlotsChecked). l.verdicts) past_length ∙ go (ruling by (file_faults c p) left)
        where
          go : {l : SlotsChecked} → Ruling by (file_faults c p) left l → l.verdicts ≡ w
          go (refuses k a q) = ap (λ (l : SlotsChecked). l.verdicts) q
          go (passes good q) = ap (λ (l : SlotsChecked). l.verdicts) q ∙ judged.untouched (λ b. n (by_slot_call good b))

      many : length (check_slots_call c p m received w).memory ≡ 48
      many = ap (λ (l : SlotsChecked). length l.verdicts) past_length ∙ go (ruling by (file_faults c p) left)
        where
          go : {l : SlotsChecked} → Ruling by (file_faults c p) left l → length l.verdicts ≡ 48
          go (refuses k a q) = ap (λ (l : SlotsChecked). length l.verdicts) q ∙ room
          go (passes good q) = ap (λ (l : SlotsChecked). length l.verdicts) q ∙ judged.many

      judges : CallJudges c p m received w
      judges =
          record {
            returned = slots_returned c p m received w room;
            within = λ b i l. let s = by_slot b in rw (memory s.0) (judged.within s.1 i l);
            past = λ b i l h. let s = by_slot b in rw (memory s.0) (judged.past s.1 i l h);
            many = many;
            untouched = untouched;
          }

    pub calls_judge : CallsJudge c p m received w
    calls_judge = record { judges = judges; no_room = λ e. sym (refuses_verdicts c p m received w refl e) }
