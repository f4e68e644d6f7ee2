-- Answers that meet a contract of `plan` are equal.
use Rattle.laws.proofs.Base.{◌≡◌, refl, sym, ap, ◌∙◌, cond, eqb, ne_eqb}
use Rattle.std.specs.Prelude.{⊤, Result, Ok, Err}
use Rattle.laws.specs.Determined.{Determined}
use Rattle.laws.proofs.Determined.{determined, determined_by}
use Rattle.laws.proofs.Map.{map_injective}
use Rattle.refusals.specs.Number.{number_of}
use Rattle.refusals.specs.declared.Refusal.{Refusal}
use Rattle.refusals.proofs.Inverse.{refusal_of, refusal_of_number_of, number_of_positive}
use Rattle.plan.specs as defs
use defs.declared.Entry.{Entry as EntryCode}
use defs.declared.Plan.{Plan as PlanCode}
use defs.declared.Fault.{Fault}
use defs.Paper.{Entry, Plan, Verdict, empty, plan_answer, plans_answer}
use defs.Coded.{entry_of, plan_of, verdict_of}

-- the code's entry, plan and verdict by the paper's
abbrev entry_from : Entry → EntryCode
entry_from e = record { kind = e.kind; serial = record { 0 = e.serial }; id = record { 0 = e.id }; parameter = e.parameter }

pub plan_injective : (r s : PlanCode) → plan_of r ≡ plan_of s → r ≡ s
plan_injective r s e =
    let entries = map_injective entry_of entry_from (λ x. refl) r.entries s.entries (ap (λ (p : Plan). p.entries) e) in
    λ i. record { count = (e i).count; entries = entries i }

abbrev verdict_from : Verdict → Result ⊤ Fault
verdict_from v = cond (eqb v.number 0) (Ok tt) (Err (record { refusal = refusal_of v.number; entry = v.entry }))

verdict_from_verdict_of : (v : Result ⊤ Fault) → verdict_from (verdict_of v) ≡ v
verdict_from_verdict_of (Ok x) = refl
verdict_from_verdict_of (Err f) =
    rw (ne_eqb (number_of f.refusal) 0 (number_of_positive f.refusal))
    (λ i. Err (record { refusal = refusal_of_number_of f.refusal i; entry = f.entry }))

pub verdict_injective : (r s : Result ⊤ Fault) → verdict_of r ≡ verdict_of s → r ≡ s
verdict_injective r s e = sym (verdict_from_verdict_of r) ∙ ap verdict_from e ∙ verdict_from_verdict_of s

pub determined_empty_plan : Determined (λ (r : PlanCode). plan_of r ≡ empty)
determined_empty_plan = determined_by plan_of plan_injective

pub determined_plan_answer : (plan : PlanCode) → Determined (λ (r : Result ⊤ Fault). verdict_of r ≡ plan_answer (plan_of plan))
determined_plan_answer plan = determined_by verdict_of verdict_injective

pub determined_plans_answer : (current previous : PlanCode) → Determined (λ (r : Result ⊤ Fault). verdict_of r ≡ plans_answer (plan_of current) (plan_of previous))
determined_plans_answer current previous = determined_by verdict_of verdict_injective

pub determined_fault : (refusal : Refusal) → Determined (λ (r : Fault). r ≡ record { refusal = refusal; entry = 0 })
determined_fault refusal = determined
