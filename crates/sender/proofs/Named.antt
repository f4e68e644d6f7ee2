-- The entry that the writer names is the lowest bad one.
use Rattle.laws.proofs.Base.{◌≡◌, refl, ap, not, ◌||◌, List, ℕ, length, eqb, eqb-true, eqb-false, subst, sym}
use Rattle.laws.proofs.Ruled.{ruled_passes}
use Rattle.laws.proofs.Tests.{true_or_false}
use Rattle.plan.specs.Paper.{Plan, Verdict, entries_within, plans_number, plans_entry}
use Rattle.plan.specs.Claims.{Naming, LowestBad, first_refused}
use Rattle.plan.proofs.Named.{not_naming, naming_other, names_lowest_of_two}
use Rattle.sender_message.specs.Paper.{MessageLeft, unwritten, written, message_faults, write_message}
use Rattle.sender.specs as defs
use defs.Paper.{planned, write, ScheduleLeft, write_schedule}
use defs.Claims.{WriterNamesLowestBad}
use Rattle.sender.proofs.Cases.{leaves_15, leaves_plans, leaves_planned}

module _ (c p : Plan) (b : ℕ) (o : List ℕ) where
  -- the message's own refusals name no entry
  message_unnamed : Naming (write_message b (planned c p) c.count o).number → ⊥
  unfolding write_message
  message_unnamed =
      not_naming _
      (ruled_passes (λ (n : ℕ). not (eqb n 36 || eqb n 37)) (λ (w : MessageLeft). w.number) (unwritten o) (message_faults b (planned c p) c.count o)
      (written b (planned c p) c.count) (λ n. refl) refl refl)

  -- so what names one is a refusal of the plans
  plans_name : Naming (write c p b o).number → ((write c p b o).number ≡ plans_number c p) × ((write_schedule c p b o).entry ≡ plans_entry c p)
  plans_name h =
      true_or_false (eqb (length o) 88)
      (λ e.
      let room = eqb-true (length o) 88 e in
      true_or_false (eqb (plans_number c p) 0)
      (λ z. absurd (message_unnamed (subst Naming (number (leaves_planned c p b o room (eqb-true (plans_number c p) 0 z))) h)))
      (λ z.
      let all = leaves_plans c p b o room (plans_number c p) (plans_entry c p) refl (eqb-false (plans_number c p) 0 z) in
      (number all, ap (λ (w : ScheduleLeft). w.entry) all)))
      (λ e. absurd (not_naming 15 refl (subst Naming (number (leaves_15 c p b o (eqb-false (length o) 88 e))) h)))
    where
      number : {w : ScheduleLeft} → write_schedule c p b o ≡ w → (write c p b o).number ≡ w.left.number
      number e = ap (λ (x : ScheduleLeft). x.left.number) e

pub writer_names_lowest_bad : WriterNamesLowestBad
writer_names_lowest_bad c p b o =
    record {
      named = λ h.
          let w = plans_name c p b o h in
          subst (λ (v : Verdict). LowestBad (entries_within (first_refused c p)) v.number v.entry)
          (λ i. record { number = sym w.0 i; entry = sym w.1 i })
          ((names_lowest_of_two c p).named (subst Naming w.0 h));
      unnamed = naming_other (write c p b o).number (plans_entry c p);
    }
