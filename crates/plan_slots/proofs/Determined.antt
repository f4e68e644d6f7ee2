-- Answers that meet the contract of `plan_slots` are equal.
use Rattle.laws.proofs.Base.{◌≡◌, refl, sym, ◌∙◌, List, map}
use Rattle.laws.proofs.Map.{map_injective}
use Rattle.plan.specs.declared.Plan.{Plan as PlanCode}
use Rattle.plan.specs.Coded.{plan_of}
use Rattle.plan_slots.specs as defs
use defs.declared.Planned.{Planned as PlannedCode}
use defs.Paper.{Planned}
use defs.Coded.{planned_of}
use defs.Inner.{all_planned}

abbrev planned_from : Planned → PlannedCode
planned_from v = record { kind = v.kind; low = v.low; lowest = v.lowest; fresh = v.fresh }

pub said_injective : (r s : List PlannedCode) → map planned_of r ≡ map planned_of s → r ≡ s
said_injective r s e = map_injective planned_of planned_from (λ x. refl) r s e

pub determined_all_planned : (current previous : PlanCode) (r s : List PlannedCode)
    → map planned_of r ≡ all_planned (plan_of current) (plan_of previous) → map planned_of s ≡ all_planned (plan_of current) (plan_of previous) → r ≡ s
determined_all_planned current previous r s a b = said_injective r s (a ∙ sym b)
