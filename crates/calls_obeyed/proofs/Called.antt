-- Demand 3 over the calls for C follows from demand 3, for each number comes out of what a call returns.
use Rattle.laws.proofs.Base.{◌≡◌, refl, sym, ap, ◌∙◌, Bool, true, false, not, List, ◌∷◌, ℕ, zero, suc, ◌*◌, ◌%◌, arith, eqb, length}
use Rattle.laws.proofs.Ruled.{NoneHolds, ruled_map, none_holds, ruled_none, unless0_numbered}
use Rattle.plan_read.specs.Paper.{read_plan}
use Rattle.sender_message.specs.Paper.{MessageLeft}
use Rattle.sender.specs.Paper.{write, ScheduleLeft, unwritten_naming, write_schedule}
use Rattle.checker.specs.Paper.{Checked, unchecked, refused_at, check}
use Rattle.block_writer.specs.Paper.{last_used}
use Rattle.delivery.proofs.Accepted.{ours_accepted}
use Rattle.board_obeyed.specs.Claims.{Obeys, board_after}
use Rattle.board_obeyed.proofs.Obeyed.{wakes, wakes_only}
use Rattle.calls.specs.Paper.{bit_of}
use Rattle.plan_calls.specs.Paper.{beside_number, file_faults, files_entry, written_from, checked_beside, packed_checked, check_schedule_call}
use Rattle.board.specs.Coded.{lent_wanted}
use Rattle.board_calls.specs.Paper.{packed_decided, decided_for}
use Rattle.calls_unpacked.proofs.Unpacked.{unpacked_write_schedule, unpacked_check_schedule, unpacked_decide}
use Rattle.calls_obeyed.specs.Claims.{plan_in, CallsAccepted, ObeysCalls, CallsWake, CallsWakeOnly, after_slots, CallsPeriod}

-- no test on two files holds
abbrev Good : List ℕ → List ℕ → Type 0
Good c p = NoneHolds (file_faults c p)

module _ (c p : List ℕ) where
  -- where the writer answers 0, the files are good, and its answer is that for their plans
  writes : (b : ℕ) (o : List ℕ) → (written_from c p b o).left.number ≡ 0 → Good c p × ((written_from c p b o).left ≡ write (plan_in c) (plan_in p) b o)
  writes b o z =
      let ts : List (Bool × ℕ) = (not (eqb (length o) 88), 15) ∷ file_faults c p in
      let w = write_schedule (plan_in c) (plan_in p) b o in
      let by = unwritten_naming (files_entry c p) o in
      let h =
      none_holds ts w.left.number ((λ t e. omega arith), (unless0_numbered (read_plan c).number, (unless0_numbered (read_plan p).number, tt)))
      (sym (ruled_map (λ (x : ScheduleLeft). x.left.number) by ts w) ∙ z) in
      (h.1, ap (λ (x : ScheduleLeft). x.left) (ruled_none by ts w h))

  -- beside good files the checker answers as for their plans
  checks : Good c p → (m : List ℕ) (received : ℕ) → checked_beside c p m received ≡ check (plan_in c) (plan_in p) m received
  checks good m received = ruled_none (refused_at (files_entry c p)) (file_faults c p) (check (plan_in c) (plan_in p) m received) good

  -- what it accepts beside files it accepts beside their plans
  accepts : (m : List ℕ) (received : ℕ) → check_schedule_call c p m received % 256 ≡ 0 → (check (plan_in c) (plan_in p) m received).number ≡ 0
  accepts m received z =
      let x = check (plan_in c) (plan_in p) m received in
      let number : (checked_beside c p m received).number ≡ 0 = sym (unpacked_check_schedule c p m received).0 ∙ z in
      let good =
      none_holds (file_faults c p) x.number (unless0_numbered (read_plan c).number, (unless0_numbered (read_plan p).number, tt))
      (sym (ruled_map (λ (y : Checked). y.number) (refused_at (files_entry c p)) (file_faults c p) x) ∙ number) in
      sym (ap (λ (y : Checked). y.number) (checks good m received)) ∙ number

  -- and the other way
  true_call : Good c p → (m : List ℕ) (received : ℕ) → check (plan_in c) (plan_in p) m received ≡ unchecked 0 → check_schedule_call c p m received ≡ 0
  true_call good m received e = ap packed_checked (checks good m received ∙ e)

pub calls_accepted : CallsAccepted
calls_accepted c p b o z =
    let number : (written_from c p b o).left.number ≡ 0 = sym (unpacked_write_schedule c p b o).0 ∙ z in
    let w = writes c p b o number in
    let same : (written_from c p b o).left ≡ write (plan_in c) (plan_in p) b o = w.1 in
    let a = ours_accepted (plan_in c) (plan_in p) b o (sym (ap (λ (x : MessageLeft). x.number) same) ∙ number) in
    let used =
    (unpacked_write_schedule c p b o).1
    ∙ ap (λ (n : ℕ). beside_number n (written_from c p b o).left.used (written_from c p b o).entry) number
    ∙ ap (λ (x : MessageLeft). x.used) same in
    rw (used, same)
    (record {
      whole = true_call c p w.0 (write (plan_in c) (plan_in p) b o).output 88 a.whole;
      blocks = true_call c p w.0 (write (plan_in c) (plan_in p) b o).output (22 * last_used (write (plan_in c) (plan_in p) b o).used) a.used;
    })

pub obeys : (c p m : List ℕ) (received : ℕ) (w : List ℕ) → ObeysCalls c p m received w → Obeys (plan_in c) (plan_in p) m received (lent_wanted w)
obeys c p m received w o = record { accepted = accepts c p m received o.accepted; few = o.few }

pub calls_wake : CallsWake
calls_wake c p m received w o held i q l =
    ap packed_decided (wakes (plan_in c) (plan_in p) m received (lent_wanted w) (obeys c p m received w o) held i q l)

pub calls_wake_only : CallsWakeOnly
calls_wake_only c p m received w o held i l e =
    wakes_only (plan_in c) (plan_in p) m received (lent_wanted w) (obeys c p m received w o) held i l
    (bit_read (decided_for true m received (suc i) w held).read (sym (unpacked_decide true m received (suc i) w held).1 ∙ e))
  where
    bit_read : (b : Bool) → bit_of b ≡ 1 → b ≡ true
    bit_read true e = refl
    bit_read false e = absurd (omega (arith, e))

-- a decision to read, as the number that C sees
read_one : (b : Bool) → eqb (bit_of b) 1 ≡ b
read_one true = refl
read_one false = refl

pub calls_period : CallsPeriod
unfolding board_after after_slots
calls_period c m received w lost b zero = refl
calls_period c m received w lost b (suc n) =
    let held = (board_after c m received (lent_wanted w) lost b n).held in
    rw (calls_period c m received w lost b n, (unpacked_decide true m received (suc n) w held).1, read_one (decided_for true m received (suc n) w held).read)
