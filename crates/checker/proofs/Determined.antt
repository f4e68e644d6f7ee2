-- Answers that meet the contract of `checker` are equal.
use Rattle.laws.proofs.Base.{◌≡◌, refl, sym, ap, ◌∙◌, cond, List, ℕ, eqb, ne_eqb}
use Rattle.std.specs.Prelude.{⊤, Result, Ok, Err}
use Rattle.laws.specs.Determined.{Determined}
use Rattle.laws.proofs.Determined.{determined, determined_by}
use Rattle.refusals.specs.Number.{number_of}
use Rattle.refusals.specs.declared.Refusal.{Refusal}
use Rattle.refusals.proofs.Inverse.{refusal_of, refusal_of_number_of, number_of_positive}
use Rattle.plan.specs.declared.Plan.{Plan}
use Rattle.plan.specs.Coded.{plan_of}
use Rattle.plan.specs.declared.Fault.{Fault}
use Rattle.checker_plans.specs.declared.Said.{Said}
use Rattle.checker_plans.specs.Coded.{plans_of}
use Rattle.checker.specs as defs
use defs.declared.SlotFault.{SlotFault}
use defs.Paper.{Checked, SlotsChecked, check}
use defs.Coded.{checked_of}
use defs.Inner.{slots_beside}

-- the code's answer by the paper's
abbrev checking_from : Checked → Result ⊤ SlotFault
checking_from r = cond (eqb r.number 0) (Ok tt) (Err (record { refusal = refusal_of r.number; slot = r.slot }))

checking_from_checked_of : (r : Result ⊤ SlotFault) → checking_from (checked_of r) ≡ r
checking_from_checked_of (Ok x) = refl
checking_from_checked_of (Err f) =
    rw (ne_eqb (number_of f.refusal) 0 (number_of_positive f.refusal))
    (λ i. Err (record { refusal = refusal_of_number_of f.refusal i; slot = f.slot }))

checking_injective : (r s : Result ⊤ SlotFault) → checked_of r ≡ checked_of s → r ≡ s
checking_injective r s e = sym (checking_from_checked_of r) ∙ ap checking_from e ∙ checking_from_checked_of s

pub determined_check_schedule : (current previous : Plan) (m : List ℕ) (received : ℕ)
    → Determined (λ (r : Result ⊤ SlotFault). checked_of r ≡ check (plan_of current) (plan_of previous) m received)
determined_check_schedule current previous m received = determined_by checked_of checking_injective

pub determined_check_slots : (plans : Result Said Fault) (m : List ℕ) (received : ℕ) (w : List ℕ) (r s : Result ⊤ SlotFault) (x y : List ℕ)
    → record { checked = checked_of r; verdicts = x } ≡ slots_beside (plans_of plans) m received w
    → record { checked = checked_of s; verdicts = y } ≡ slots_beside (plans_of plans) m received w → (r ≡ s) × (x ≡ y)
determined_check_slots plans m received w r s x y a b =
    let e = a ∙ sym b in
    (checking_injective r s (ap (λ (l : SlotsChecked). l.checked) e), ap (λ (l : SlotsChecked). l.verdicts) e)

pub determined_slot_fault : (refusal : Refusal) → Determined (λ (r : SlotFault). r ≡ record { refusal = refusal; slot = 0 })
determined_slot_fault refusal = determined

pub determined_plans_fault : (plans : Fault) → Determined (λ (r : SlotFault). r ≡ record { refusal = plans.refusal; slot = plans.entry })
determined_plans_fault plans = determined
