-- The entry that comes out of what a call returns is the lowest bad one of the file that is refused.
use Rattle.laws.proofs.Base.{◌≡◌, refl, sym, ◌∙◌, subst, List, ◌∷◌, [], ⊎_elim, ℕ, ◌+◌, ◌*◌, ◌/◌, ◌%◌, arith, length, eqb, eq-eqb, ne_eqb, eqb-true, eqb-false}
use Rattle.laws.specs.Ruled.{ruled}
use Rattle.laws.specs.Search.{some, first_from}
use Rattle.laws.proofs.Ruled.{NoneHolds, none_holds, ruled_none, unless0_numbered}
use Rattle.laws.proofs.Outcome.{ruled_refuses}
use Rattle.laws.proofs.Tests.{true_or_false}
use Rattle.plan.specs.Paper.{entries_within, bad, lowest_fault, plan_number}
use Rattle.plan.specs.Claims.{Naming, LowestBad, NamesBad, first_refused}
use Rattle.plan.proofs.Answers.{naming_is}
use Rattle.plan.proofs.Named.{not_naming, naming_other, good_names_none}
use Rattle.plan_read.specs.Paper.{entry_in, entries_in, listed, read_plan, entries_octets, file_of}
use Rattle.plan_read.proofs.Named.{file_names_lowest_bad}
use Rattle.plan_read.proofs.ReadGood.{read_is_good}
use Rattle.sender.specs.Paper.{ScheduleLeft, unwritten_naming, write_schedule}
use Rattle.sender.proofs.Named.{writer_names_lowest_bad}
use Rattle.checker.specs.Paper.{Checked, refused_at, check}
use Rattle.checker.proofs.Named.{checker_names_lowest_bad}
use Rattle.plan_calls.specs.Paper.{beside_number, plan_call, file_faults, files_entry, written_from, checked_beside, check_schedule_call}
use Rattle.plan_calls.proofs.Answers.{slots_returned}
use Rattle.calls_unpacked.specs.Claims.{first_refused_file, NamedByCall, CallsNameLowestBad}
use Rattle.calls_unpacked.proofs.Unpacked.{unpacked_read_plan, unpacked_write_schedule, unpacked_check_schedule}

-- a number that names an entry isn't 0
naming_refuses : {n : ℕ} → Naming n → n ≡ 0 → ⊥
naming_refuses h z = ⊎_elim (λ q. omega arith) (λ q. omega arith) h

-- what is said of a returned number, of the two numbers that come out of it
record Beside (f : List ℕ) (n k : ℕ) : Type 0 where
  named : Naming n → LowestBad (listed f) n k
  unnamed : (n ≡ 0 → ⊥) → (Naming n → ⊥) → (n ≡ 40 → ⊥) → k ≡ 0

taken : (f : List ℕ) (returned : ℕ) {n k : ℕ} → returned % 256 ≡ n → returned / 256 ≡ k → Beside f n k → NamedByCall f returned
taken f returned d e w =
    record {
      named = λ h. rw (d, e) (w.named (subst Naming d h));
      unnamed = λ z h q. e ∙ w.unnamed (λ y. z (d ∙ y)) (λ y. h (subst Naming (sym d) y)) (λ y. q (d ∙ y));
    }

reader : (f : List ℕ) → Beside f (read_plan f).number (beside_number (read_plan f).number (read_plan f).plan.count (read_plan f).entry)
reader f =
    record {
      named = λ h. rw (ne_eqb (read_plan f).number 0 (naming_refuses h)) ((file_names_lowest_bad f).named h);
      unnamed = λ z h q. rw (ne_eqb (read_plan f).number 0 z) ((file_names_lowest_bad f).unnamed h);
    }

module _ (c p : List ℕ) where
  -- the number by which two files are refused
  refused : ℕ
  refused = ruled (λ (n : ℕ). n) (file_faults c p) 0

  files_name : NamesBad (listed (first_refused_file c p)) refused (files_entry c p)
  unfolding refused
  files_name =
      true_or_false (eqb (read_plan c).number 0)
      (λ z.
      true_or_false (eqb (read_plan p).number 0)
      (λ y.
      rw (z, y)
      (subst (λ (n : ℕ). NamesBad (listed p) n (read_plan p).entry) (eqb-true (read_plan p).number 0 y) (file_names_lowest_bad p)))
      (λ y. rw (z, y) (file_names_lowest_bad p)))
      (λ z. rw z (file_names_lowest_bad c))

  -- the plans that are read have no bad entry
  none_left : {n k : ℕ} → LowestBad (entries_within (first_refused (read_plan c).plan (read_plan p).plan)) n k → ⊥
  none_left =
      rw (eq-eqb (plan_number (read_plan c).plan) 0 (read_is_good c))
      (good_names_none (read_plan p).plan (read_is_good p))

  good : refused ≡ 0 → NoneHolds (file_faults c p)
  unfolding refused
  good z = none_holds (file_faults c p) 0 (unless0_numbered (read_plan c).number, (unless0_numbered (read_plan p).number, tt)) z

  refuses : (refused ≡ 0 → ⊥) → (A : Type 0) (by : ℕ → A) (x : A) → ruled by (file_faults c p) x ≡ by refused
  unfolding refused
  refuses k A by x = ruled_refuses (file_faults c p) refused refl k A by x

  module _ (b : ℕ) (o : List ℕ) where
    abbrev wrote : ScheduleLeft
    wrote = write_schedule (read_plan c).plan (read_plan p).plan b o

    past_output : length o ≡ 88 → written_from c p b o ≡ ruled (unwritten_naming (files_entry c p) o) (file_faults c p) wrote
    past_output e = rw (eq-eqb (length o) 88 e)

    -- an answer of the writer, as it is packed
    abbrev Packed : ScheduleLeft → Type 0
    Packed w = Beside (first_refused_file c p) w.left.number (beside_number w.left.number w.left.used w.entry)

    by_files : Packed (unwritten_naming (files_entry c p) o refused)
    by_files =
        record {
          named = λ h. rw (ne_eqb refused 0 (naming_refuses h), naming_is refused (files_entry c p) h) (files_name.named h);
          unnamed = λ z h q. rw (ne_eqb refused 0 z) (naming_other refused (files_entry c p) h);
        }

    by_plans : Packed wrote
    by_plans =
        let names = writer_names_lowest_bad (read_plan c).plan (read_plan p).plan b o in
        record {
          named = λ h. absurd (none_left (names.named h));
          unnamed = λ z h q. rw (ne_eqb wrote.left.number 0 z) (names.unnamed h);
        }

    writer : Packed (written_from c p b o)
    writer =
        true_or_false (eqb (length o) 88)
        (λ e.
        subst Packed (sym (past_output (eqb-true (length o) 88 e)))
        (true_or_false (eqb refused 0)
        (λ z. subst Packed (sym (ruled_none (unwritten_naming (files_entry c p) o) (file_faults c p) wrote (good (eqb-true refused 0 z)))) by_plans)
        (λ z. subst Packed (sym (refuses (eqb-false refused 0 z) ScheduleLeft (unwritten_naming (files_entry c p) o) wrote)) by_files)))
        (λ e. rw e (record { named = λ h. absurd (not_naming 15 refl h); unnamed = λ z h q. refl }))

  module _ (m : List ℕ) (received : ℕ) where
    abbrev beside : Checked
    beside = check (read_plan c).plan (read_plan p).plan m received

    abbrev Told : Checked → Type 0
    Told k = Beside (first_refused_file c p) k.number k.slot

    checker : Told (checked_beside c p m received)
    checker =
        let names = checker_names_lowest_bad (read_plan c).plan (read_plan p).plan m received in
        true_or_false (eqb refused 0)
        (λ z.
        subst Told (sym (ruled_none (refused_at (files_entry c p)) (file_faults c p) beside (good (eqb-true refused 0 z))))
        (record { named = λ h. absurd (none_left (names.named h)); unnamed = λ y h q. names.unnamed h q }))
        (λ z.
        subst Told (sym (refuses (eqb-false refused 0 z) Checked (refused_at (files_entry c p)) beside))
        (record { named = files_name.named; unnamed = λ y h q. files_name.unnamed h }))

check_names : (c p m : List ℕ) (received : ℕ) → NamedByCall (first_refused_file c p) (check_schedule_call c p m received)
check_names c p m received = let u = unpacked_check_schedule c p m received in taken (first_refused_file c p) _ u.0 u.1 (checker c p m received)

pub calls_name_lowest_bad : CallsNameLowestBad
calls_name_lowest_bad =
    record {
      reader = λ f. let u = unpacked_read_plan f in taken f _ u.0 u.1 (reader f);
      writer = λ c p b o. let u = unpacked_write_schedule c p b o in taken (first_refused_file c p) _ u.0 u.1 (writer c p b o);
      checker = check_names;
      slots = λ c p m received w room. rw (slots_returned c p m received w room) (check_names c p m received);
    }

-- its premise is met: of a file of two entries, the second of kind 3
pub second_named : plan_call (file_of (record { kind = 2; serial = 0x0010; id = 0x8001; parameter = 0x11 } ∷ record { kind = 3; serial = 0; id = 0; parameter = 0 } ∷ [])) ≡ 36 + 256 * 2
unfolding read_plan entries_octets entries_in entry_in bad some first_from lowest_fault
second_named = refl
