-- Laws of what the schedule writer's and the checker's answers for the plans of two files leave a C caller with.
use Rattle.std.specs.Prelude.{⊤, Result, Ok, Err}
use Rattle.laws.proofs.Base.{◌≡◌, sym, ap, ◌∙◌, Bool, true, false, cond, List, ℕ, ◌≤◌, arith, length, eqb, eqb-true, eq-eqb, ne_eqb, not-false}
use Rattle.laws.specs.Ruled.{ruled}
use Rattle.laws.specs.Upto.{lowest}
use Rattle.laws.proofs.Ruled.{Ruling, refuses, passes, ruling, ruled_map}
use Rattle.laws.proofs.Lowest.{Lowest, none_passes, first_passes, lowest_is}
use Rattle.refusals.specs.Number.{number_of}
use Rattle.schedule.specs.Paper.{end}
use Rattle.refusals.proofs.Inverse.{number_of_positive}
use Rattle.plan.specs.declared.Fault.{Fault}
use Rattle.plan.specs.declared.Plan.{Plan as PlanCode}
use Rattle.plan.specs.Paper.{Plan, naming, plans_entry}
use Rattle.plan_read.specs.Paper.{read_plan}
use Rattle.plan.specs.Coded.{plan_of}
use Rattle.plan.proofs.GoodPlan.{good_counted}
use Rattle.plan.proofs.Plans.{plans_few}
use Rattle.sender_message.specs.Paper.{MessageLeft, unwritten}
use Rattle.sender.specs.Paper.{ScheduleLeft, unwritten_naming, write_schedule}
use Rattle.sender.specs.Coded.{sending_of}
use Rattle.sender.proofs.Cases.{accepts}
use Rattle.checker.specs.declared.SlotFault.{SlotFault}
use Rattle.checker.specs.Paper.{Checked, unchecked, refused_at, untrue_at, untrue, verdict, faults, check, SlotsChecked, unjudged, check_slots}
use Rattle.checker.specs.Inner.{slots_beside}
use Rattle.checker.specs.Coded.{checked_of}
use Rattle.checker.proofs.Telling.{slots_beside_lem, slots_checked}
use Rattle.checker_plans.specs.Inner.{beside}
use Rattle.calls.specs.Paper.{in_one}
use Rattle.calls.specs.Claims.{IsLeft}
use Rattle.plan_calls.specs as defs
use defs.Paper.{file_faults, files_entry, written_from, written_left, write_schedule_call, checked_beside, packed_checked, check_schedule_call, slots_beside_files, check_slots_call}
use defs.Inner.{Both}
use Rattle.plan_calls.proofs.Filed.{files_refused, files_entry_lem, files_named, files_good, current_read, previous_read}

-- a refusal and the entry that comes with it, packed
pub refused_left_lem : (f : Fault) {r : ℕ} {o : List ℕ} → r ≡ in_one (number_of f.refusal) f.entry
    → IsLeft r o (written_left (record { left = unwritten o (number_of f.refusal); entry = f.entry }))
refused_left_lem f {r} {o} n = rw (ne_eqb (number_of f.refusal) 0 (number_of_positive f.refusal)) (ap (λ (x : ℕ). record { returned = x; memory = o }) n)

module _ (c p : List ℕ) (b : ℕ) (o : List ℕ) where
  module _ (room : length o ≡ 88) where
    -- past the test of the output
    past_output : ruled (unwritten_naming (files_entry c p) o) (file_faults c p) (write_schedule (read_plan c).plan (read_plan p).plan b o) ≡ written_from c p b o
    past_output = rw (eq-eqb (length o) 88 room)

    pub refuses_files : (f : Fault) {r : ℕ} → Both c p (Err f) → r ≡ in_one (number_of f.refusal) f.entry → IsLeft r o (write_schedule_call c p b o)
    refuses_files f e n =
        let entry : f.entry ≡ naming (number_of f.refusal) (files_entry c p) =
        sym (files_named c p f e) ∙ ap (naming (number_of f.refusal)) (sym (files_entry_lem c p f e)) in
        refused_left_lem f n
        ∙ ap written_left
        (ap (λ (t : ℕ). record { left = unwritten o (number_of f.refusal); entry = t }) entry
        ∙ files_refused c p f e (unwritten_naming (files_entry c p) o) (write_schedule (read_plan c).plan (read_plan p).plan b o)
        ∙ past_output)

pub message_small : (c p : Plan) (b : ℕ) (o q : List ℕ) {u : ℕ} → sending_of (Ok u) q ≡ write_schedule c p b o → u ≤ 88
message_small c p b o q {u} e =
    let w = ap (λ (z : ScheduleLeft). z.left) e in
    let s = accepts c p b o (sym (ap (λ (z : MessageLeft). z.number) w)) in
    omega (arith, s.few, ap (λ (z : MessageLeft). z.used) (w ∙ s.writes))

-- the lowest of n numbers, counted from 1, is no more than n
lowest_few : (f : ℕ → Bool) (n : ℕ) → lowest f n ≤ n
lowest_few f n = go (lowest_is f n)
  where
    go : {r : ℕ} → Lowest f n r → r ≤ n
    go (none_passes e none) = omega arith
    go (first_passes i e l t before) = omega arith

-- the checker names no slot past the 48th
slot_few : (c p : Plan) (m : List ℕ) (received : ℕ) → (check c p m received).slot ≤ 48
unfolding check
slot_few c p m received = go (ruling (refused_at (plans_entry c p)) (faults c p m received) (verdict c p m))
  where
    named : c.count ≤ 48 → (s t : Bool)
        → (cond s (cond t (unchecked 0) (untrue_at (lowest (untrue c p m) c.count))) (untrue_at 0)).slot ≤ 48
    named few true true = omega arith
    named few true false = omega (arith, lowest_few (untrue c p m) c.count)
    named few false t = omega arith

    go : {r : Checked} → Ruling (refused_at (plans_entry c p)) (faults c p m received) (verdict c p m) r → r.slot ≤ 48
    go (refuses n a e) = rw e (plans_few c p)
    go (passes h e) =
        rw e (named (good_counted c (eqb-true _ 0 (not-false _ h.0))) (eqb (end m) c.count) (eqb (lowest (untrue c p m) c.count) 0))

-- with memory for the verdicts the answer for the files is the checker's, and so is the number returned
module _ (c p m : List ℕ) (received : ℕ) (w : List ℕ) (room : length w ≡ 48) where
  pub files_checked : (slots_beside_files c p m received w).checked ≡ checked_beside c p m received
  files_checked =
      rw (eq-eqb (length w) 48 room)
      (ruled_map (λ (l : SlotsChecked). l.checked) (unjudged (files_entry c p) w) (file_faults c p) (check_slots (read_plan c).plan (read_plan p).plan m received w)
      ∙ ap (ruled (refused_at (files_entry c p)) (file_faults c p)) (slots_checked (read_plan c).plan (read_plan p).plan m received w room))

  pub slots_returned : (check_slots_call c p m received w).returned ≡ check_schedule_call c p m received
  slots_returned = ap packed_checked files_checked

module _ (c p m : List ℕ) (received : ℕ) (w : List ℕ) where
  pub refuses_verdicts : {r : ℕ} → r ≡ 15 → (length w ≡ 48 → ⊥) → IsLeft r w (check_slots_call c p m received w)
  refuses_verdicts n e = rw (ne_eqb (length w) 48 e) (ap (λ (x : ℕ). record { returned = x; memory = w }) n)

  module _ (room : length w ≡ 48) where
    abbrev past : SlotsChecked
    past = check_slots (read_plan c).plan (read_plan p).plan m received w

    -- past the test of the verdicts' memory
    past_verdicts : ruled (unjudged (files_entry c p) w) (file_faults c p) past ≡ slots_beside_files c p m received w
    past_verdicts = rw (eq-eqb (length w) 48 room)

    -- the checker's answer for the plans is that for the files
    pub as_beside : (q : PlanCode × PlanCode) {x : SlotsChecked} → Both c p (Ok q) → x ≡ slots_beside (beside (plan_of q.0) (plan_of q.1)) m received w
        → x ≡ slots_beside_files c p m received w
    as_beside q e k =
        k
        ∙ slots_beside_lem (plan_of q.0) (plan_of q.1) m received w
        ∙ (λ i. check_slots (current_read c p q e i) (previous_read c p q e i) m received w)
        ∙ files_good c p q e (unjudged (files_entry c p) w) past
        ∙ past_verdicts

pub named_small : (c p : Plan) (m : List ℕ) (received : ℕ) (w x : List ℕ) (a : Result ⊤ SlotFault) → length w ≡ 48
    → record { checked = checked_of a; verdicts = x } ≡ slots_beside (beside c p) m received w → (checked_of a).slot ≤ 48
named_small c p m received w x a room e =
    omega
    (arith, slot_few c p m received, ap (λ (l : SlotsChecked). l.checked.slot) (e ∙ slots_beside_lem c p m received w), ap (λ (k : Checked). k.slot) (slots_checked c p m received w room))
