-- What a call packs into one number is taken out of it again as the header's macros do it: nothing runs into its neighbour.
use Rattle.laws.proofs.Base.{◌≡◌, refl, ap, Bool, true, false, cond, not, ◌&&◌, List, [], ◌∷◌, inl, inr, ℕ, ◌≤◌, ◌<◌, arith, lit<, eqb, leb, ltb, length, eqb-true, ltb-true, lt-ltb}
use Rattle.laws.specs.Ruled.{ruled}
use Rattle.laws.specs.Upto.{lowest}
use Rattle.laws.proofs.Ruled.{Among, Ruling, refuses, passes, ruling}
use Rattle.laws.proofs.Tests.{true_or_false, both}
use Rattle.calls.specs.Paper.{bit_of}
use Rattle.calls.specs.Claims.{TakenApart}
use Rattle.calls.proofs.Packed.{apart, bit_most}
use Rattle.block.specs.Paper.{refusal as refused, step}
use Rattle.block_history.proofs.History.{number_small}
use Rattle.firmware.specs.Paper.{held_in, moved, intake_call}
use Rattle.plan.specs.Paper.{Plan, lowest_fault, plan_number, plans_entry}
use Rattle.plan.proofs.Answers.{fault_low}
use Rattle.plan_read.specs.Paper.{PlanRead, listed, faults as plan_faults, refusal as plan_refusal, good_file, read_plan}
use Rattle.plan.proofs.GoodPlan.{plan_low}
use Rattle.schedule.specs.Paper.{end, faults, Read, unread, good, read, GivenSlot, next, no_more, refusal, given_at, given}
use Rattle.text.specs.Paper.{PageLeft, written_page, writer_tests, used_octets, page_octets, Reading, reading, reading_with, reader_tests, blank_cell, shown_text, shown, septets_received}
use Rattle.text.proofs.Shown.{shown_number}
use Rattle.sender_message.specs.Paper as told
use Rattle.sender.specs.Paper as sender
use Rattle.checker.specs.Paper as checker
use Rattle.board.specs.Paper.{Wanted, Decided, undecided, reads, decide}
use Rattle.board_held.specs.Paper.{Schedule}
use Rattle.board_held.specs.Coded.{lent_schedule}
use Rattle.schedule_calls.specs.Paper.{packed_given}
use Rattle.schedule_calls.proofs.Given.{ends_small, slot_number, slot_small}
use Rattle.plan_calls.specs.Paper.{file_faults, files_entry, written_from, checked_beside}
use Rattle.plan_calls.proofs.Answers.{files_checked}
use Rattle.board_calls.specs.Paper.{decided_for}
use Rattle.calls_unpacked.specs.Claims.{UnpackedIntake, UnpackedWriteText, UnpackedReadText, UnpackedReadPlan, UnpackedWriteSchedule}
use Rattle.calls_unpacked.specs.Claims.{UnpackedCheckSchedule, UnpackedCheckSlots, UnpackedDecide, UnpackedReadSchedule, UnpackedNext, UnpackedRefusal}

-- the numbers of some tests fit eight bits
abbrev fitting : List (Bool × ℕ) → Bool
fitting [] = true
fitting (t ∷ ts) = ltb t.1 256 && fitting ts

among_fitting : (n : ℕ) (ts : List (Bool × ℕ)) → fitting ts ≡ true → Among n ts → n < 256
among_fitting n [] f a = absurd a
among_fitting n (t ∷ ts) f (inl e) = rw e (ltb-true t.1 256 (both (ltb t.1 256) (fitting ts) f).0)
among_fitting n (t ∷ ts) f (inr a) = among_fitting n ts (both (ltb t.1 256) (fitting ts) f).1 a

-- so does the number that they answer with
ruled_fitting : {A : Type 0} (number : A → ℕ) (by : ℕ → A) (ts : List (Bool × ℕ)) (x : A)
    → ((n : ℕ) → n < 256 → number (by n) < 256) → fitting ts ≡ true → number x < 256 → number (ruled by ts x) < 256
ruled_fitting {A} number by ts x back f small = go (ruling by ts x)
  where
    go : {r : A} → Ruling by ts x r → number r < 256
    go (refuses n a e) = rw e (back n (among_fitting n ts f a))
    go (passes h e) = rw e small

pub unpacked_write_text : UnpackedWriteText
unfolding written_page
unpacked_write_text h t p =
    apart (written_page h t p).number (written_page h t p).used
    (ruled_fitting (λ (w : PageLeft). w.number) (λ (n : ℕ). record { number = n; used = 0; page = p }) (writer_tests h t p)
    (record { number = 0; used = used_octets t; page = page_octets h t }) (λ n l. l) refl (lit< tt))

pub unpacked_read_text : UnpackedReadText
unfolding reading_with
unpacked_read_text p n t =
    apart (reading p n t).number (reading p n t).characters
    (ruled_fitting (λ (w : Reading). w.number) (λ (m : ℕ). record { number = m; characters = 0; text = t }) (reader_tests p n t)
    (shown_text (shown (septets_received p n))) (λ n l. l) refl (rw (shown_number blank_cell (shown (septets_received p n))) (lit< tt)))

plan_fits : (f : List ℕ) → (read_plan f).number < 256
unfolding read_plan
plan_fits f =
    ruled_fitting (λ (r : PlanRead). r.number) (plan_refusal f) (plan_faults f) (good_file f) (λ n l. l)
    (rw (lt-ltb (lowest_fault (listed f)) 256 (omega (arith, fault_low (listed f))))) (lit< tt)

pub unpacked_read_plan : UnpackedReadPlan
unpacked_read_plan f = apart (read_plan f).number _ (plan_fits f)

read_fits : (m : List ℕ) (n : ℕ) → (read m n).number < 256
unfolding read
read_fits m n = ruled_fitting (λ (r : Read). r.number) unread (faults m n) (good m) (λ n l. l) refl (lit< tt)

pub unpacked_read_schedule : UnpackedReadSchedule
unpacked_read_schedule m n =
    let number = read_fits m n in
    let ends = ends_small m n in
    (omega arith, omega arith, omega arith)

-- the number of a refusal that is given; 0 for none
abbrev refusal_number : GivenSlot → ℕ
refusal_number (next i s) = 0
refusal_number no_more = 0
refusal_number (refusal n) = n

given_fits : (m : List ℕ) (n k : ℕ) → refusal_number (given m n k) < 256
unfolding given
given_fits m n k = ruled_fitting refusal_number refusal (faults m n) (given_at m k) (λ n l. l) refl (none (ltb k (end m)) refl)
  where
    none : (b : Bool) → ltb k (end m) ≡ b → refusal_number (given_at m k) < 256
    none true e = rw e (lit< tt)
    none false e = rw e (lit< tt)

pub unpacked_next : UnpackedNext
unpacked_next m n k i s g =
    let few : i < 64 = omega (arith, slot_small m n k, ap slot_number g) in
    let bit : bit_of s.new ≤ 1 = bit_most s.new in
    rw (ap packed_given g) (omega arith, omega arith, omega arith, omega arith)

pub unpacked_refusal : UnpackedRefusal
unpacked_refusal m n k r g =
    let few : r < 256 = omega (arith, given_fits m n k, ap refusal_number g) in
    rw (ap packed_given g) (omega arith, omega arith)

-- the numbers of two plans, and of two plan files
plan_small : (p : Plan) → ltb (plan_number p) 256 ≡ true
plan_small p = lt-ltb (plan_number p) 256 (omega (arith, plan_low p))

files_fit : (c p : List ℕ) → fitting (file_faults c p) ≡ true
files_fit c p = rw (lt-ltb (read_plan c).number 256 (plan_fits c), lt-ltb (read_plan p).number 256 (plan_fits p))

message_fits : (c p : Plan) (b : ℕ) (o : List ℕ) → (sender.write c p b o).number < 256
unfolding sender.write
message_fits c p b o =
    ruled_fitting (λ (w : told.MessageLeft). w.number) (told.unwritten o) (sender.faults c p b o) (sender.message c p b) (λ n l. l)
    (rw (plan_small c, plan_small p)) (lit< tt)

pub unpacked_write_schedule : UnpackedWriteSchedule
unpacked_write_schedule c p b o =
    apart (written_from c p b o).left.number _
    (ruled_fitting (λ (w : sender.ScheduleLeft). w.left.number) (sender.unwritten_naming (files_entry c p) o) ((not (eqb (length o) 88), 15) ∷ file_faults c p)
    (sender.write_schedule (read_plan c).plan (read_plan p).plan b o) (λ n l. l) (files_fit c p) (message_fits (read_plan c).plan (read_plan p).plan b o))

check_fits : (c p : Plan) (m : List ℕ) (n : ℕ) → (checker.check c p m n).number < 256
unfolding checker.check
check_fits c p m n =
    ruled_fitting (λ (x : checker.Checked). x.number) (checker.refused_at (plans_entry c p)) (checker.faults c p m n) (checker.verdict c p m) (λ n l. l)
    (rw (plan_small c, plan_small p, lt-ltb (read m n).number 256 (read_fits m n)))
    (verdict (eqb (end m) c.count) (eqb (lowest (checker.untrue c p m) c.count) 0))
  where
    verdict : (s t : Bool)
        → (cond s (cond t (checker.unchecked 0) (checker.untrue_at (lowest (checker.untrue c p m) c.count))) (checker.untrue_at 0)).number < 256
    verdict true true = lit< tt
    verdict true false = lit< tt
    verdict false t = lit< tt

pub unpacked_check_schedule : UnpackedCheckSchedule
unpacked_check_schedule c p m n =
    apart (checked_beside c p m n).number (checked_beside c p m n).slot
    (ruled_fitting (λ (x : checker.Checked). x.number) (checker.refused_at (files_entry c p)) (file_faults c p) (checker.check (read_plan c).plan (read_plan p).plan m n)
    (λ n l. l) (files_fit c p) (check_fits (read_plan c).plan (read_plan p).plan m n))

pub unpacked_check_slots : UnpackedCheckSlots
unpacked_check_slots c p m n w =
    true_or_false (eqb (length w) 48)
    (λ e. rw (files_checked c p m n w (eqb-true (length w) 48 e)) (unpacked_check_schedule c p m n))
    (λ e. rw e (apart 15 0 (lit< tt)))

decide_fits : (s : Schedule) (n : ℕ) (w : Wanted) (h : ℕ) → (decide s n w h).number < 256
unfolding decide
decide_fits s n w h =
    ruled_fitting (λ (d : Decided). d.number) undecided ((not (leb 1 n && leb n 48), 41) ∷ (ltb 64 w.count, 42) ∷ [])
    (record { number = 0; read = reads s n w h }) (λ n l. l) refl (lit< tt)

pub unpacked_decide : UnpackedDecide
unpacked_decide known m n slot wanted held =
    apart (decided_for known m n slot wanted held).number (bit_of (decided_for known m n slot wanted held).read)
    (decide_fits (lent_schedule known m n) slot (record { count = length wanted; ids = wanted }) held)

pub unpacked_intake : UnpackedIntake
unfolding intake_call
unpacked_intake s p o = go (not (eqb (length o) 88)) (not (eqb (length s) 90))
  where
    tests : Bool → Bool → List (Bool × ℕ)
    tests t u = (t, 15) ∷ (u, 8) ∷ []

    go : (t u : Bool)
        → TakenApart (ruled (λ (n : ℕ). record { returned = n; state = s; output = o }) (tests t u) (moved (step (held_in s) p) o)).returned
        (ruled refused (tests t u) (step (held_in s) p)).number (ruled refused (tests t u) (step (held_in s) p)).received
    go true u = (refl, refl)
    go false true = (refl, refl)
    go false false = apart (step (held_in s) p).number (step (held_in s) p).received (omega (arith, number_small (held_in s) p))
