-- Two answers that meet a public contract of this crate are equal, lent memory included.
use Rattle.std.specs.Prelude.{Result, Ok, Err}
use Rattle.laws.proofs.Base.{◌≡◌, refl, sym, ap, ◌∙◌, cond, List, ℕ, eqb, ne_eqb}
use Rattle.refusals.specs.Number.{number_of}
use Rattle.refusals.proofs.Inverse.{refusal_of, refusal_of_number_of, number_of_positive}
use Rattle.plan.specs.declared.Fault.{Fault}
use Rattle.plan.specs.declared.Plan.{Plan}
use Rattle.plan.specs.Coded.{plan_of}
use Rattle.sender.specs as defs
use defs.Paper.{ScheduleLeft, write_schedule}
use defs.Coded.{sending_of}

-- the code's answer by the paper's
abbrev sending_from : ScheduleLeft → Result ℕ Fault
sending_from w = cond (eqb w.left.number 0) (Ok w.left.used) (Err (record { refusal = refusal_of w.left.number; entry = w.entry }))

sending_from_sending_of : (r : Result ℕ Fault) (o : List ℕ) → sending_from (sending_of r o) ≡ r
sending_from_sending_of (Ok u) o = refl
sending_from_sending_of (Err f) o =
    rw (ne_eqb (number_of f.refusal) 0 (number_of_positive f.refusal)) (λ i. Err (record { refusal = refusal_of_number_of f.refusal i; entry = f.entry }))

output_sending_of : (r : Result ℕ Fault) (o : List ℕ) → (sending_of r o).left.output ≡ o
output_sending_of (Ok u) o = refl
output_sending_of (Err f) o = refl

pub determined_write_schedule : (current previous : Plan) (begin : ℕ) (out : List ℕ) (r s : Result ℕ Fault) (o q : List ℕ)
    → sending_of r o ≡ write_schedule (plan_of current) (plan_of previous) begin out
    → sending_of s q ≡ write_schedule (plan_of current) (plan_of previous) begin out → (r ≡ s) × (o ≡ q)
determined_write_schedule current previous begin out r s o q d e =
    let same : sending_of r o ≡ sending_of s q = d ∙ sym e in (
      sym (sending_from_sending_of r o) ∙ ap sending_from same ∙ sending_from_sending_of s q,
      sym (output_sending_of r o) ∙ ap (λ (w : ScheduleLeft). w.left.output) same ∙ output_sending_of s q,
    )
