-- Answers that meet a contract of `block_intake` are equal.
use Rattle.laws.proofs.Base.{◌≡◌, refl, sym, ap, ◌∙◌, cond, List, ℕ, arith, eqb, ne_eqb}
use Rattle.std.specs.Prelude.{Result, Ok, Err}
use Rattle.refusals.specs.declared.Refusal.{Refusal}
use Rattle.refusals.specs.Number.{number_of}
use Rattle.refusals.proofs.Inverse.{refusal_of, refusal_of_number_of, not_listed, number_of_positive}
use Rattle.block.specs.Paper.{Given, start, step}
use Rattle.block_intake.specs as defs
use defs.declared.State.{State}
use defs.declared.Answer.{Answer}
use defs.declared.Answer.TheVariants.{Page, Schedule, Taken}
use defs.declared.Reply.{Reply}
use defs.Coded.{held_of, answer_of, given_of}

pub determined_start : (r s : State) → held_of r ≡ start → held_of s ≡ start → r ≡ s
determined_start r s a b = λ i. record { kind = ((a ∙ sym b) i).kind; taken = ((a ∙ sym b) i).taken; octets = ((a ∙ sym b) i).octets }

-- the intake's answer by its number
abbrev answer_from : ℕ → Result Answer Refusal
answer_from n = cond (eqb n 0) (Ok Page) (cond (eqb n 7) (Ok Schedule) (cond (eqb n 1) (Ok Taken) (Err (refusal_of n))))

answer_from_answer_of : (r : Result Answer Refusal) → answer_from (answer_of r) ≡ r
answer_from_answer_of (Ok Page) = refl
answer_from_answer_of (Ok Schedule) = refl
answer_from_answer_of (Ok Taken) = refl
answer_from_answer_of (Err r) =
    rw
    (ne_eqb (number_of r) 0 (number_of_positive r), ne_eqb (number_of r) 7 (not_listed r 7 (omega arith)), ne_eqb (number_of r) 1 (not_listed r 1 (omega arith))) (ap Err (refusal_of_number_of r))

pub determined_intake : (state : State) (p : List ℕ) (r s : Reply) → given_of r ≡ step (held_of state) p → given_of s ≡ step (held_of state) p → r ≡ s
determined_intake state p r s a b =
    let e = a ∙ sym b in
    let answer = sym (answer_from_answer_of r.answer) ∙ ap (λ (g : Given). answer_from g.number) e ∙ answer_from_answer_of s.answer in
    λ i. record {
      answer = answer i;
      received = (e i).received;
      octets = (e i).octets;
      state = record { kind = (e i).next.kind; taken = (e i).next.taken; octets = (e i).next.octets };
    }
