-- Answers that meet the contract of `checker_plans` are equal.
use Rattle.laws.proofs.Base.{◌≡◌, sym, ap}
use Rattle.std.specs.Prelude.{Result, Ok, Err}
use Rattle.laws.specs.Determined.{Determined}
use Rattle.laws.proofs.Determined.{determined_by}
use Rattle.refusals.proofs.Inverse.{number_of_injective, number_of_positive}
use Rattle.plan.specs.declared.Fault.{Fault}
use Rattle.plan.specs.declared.Plan.{Plan}
use Rattle.plan.specs.Coded.{plan_of}
use Rattle.plan_slots.proofs.Determined.{said_injective}
use Rattle.checker_plans.specs as defs
use defs.declared.Said.{Said}
use defs.Inner.{Plans, beside}
use defs.Coded.{plans_of}

plans_injective : (r s : Result Said Fault) → plans_of r ≡ plans_of s → r ≡ s
plans_injective (Ok b) (Ok d) e =
    let said = said_injective b.said d.said (ap (λ (x : Plans). x.said) e) in
    λ i. Ok (record { count = (e i).count; said = said i })
plans_injective (Ok b) (Err f) e = absurd (number_of_positive f.refusal (sym (ap (λ (x : Plans). x.number) e)))
plans_injective (Err f) (Ok b) e = absurd (number_of_positive f.refusal (ap (λ (x : Plans). x.number) e))
plans_injective (Err f) (Err g) e =
    let refusal = number_of_injective f.refusal g.refusal (ap (λ (x : Plans). x.number) e) in
    λ i. Err (record { refusal = refusal i; entry = (e i).entry })

pub determined_beside : (current previous : Plan) → Determined (λ (r : Result Said Fault). plans_of r ≡ beside (plan_of current) (plan_of previous))
determined_beside current previous = determined_by plans_of plans_injective
