-- Answers that meet a contract of `plan_read` are equal.
use Rattle.laws.proofs.Base.{◌≡◌, sym, ap, List, ℕ, ◌+◌, ◌*◌}
use Rattle.std.specs.Prelude.{Result, Ok, Err}
use Rattle.laws.specs.Determined.{Determined}
use Rattle.laws.proofs.Determined.{determined, determined_by}
use Rattle.refusals.proofs.Inverse.{number_of_injective, number_of_positive}
use Rattle.page.specs.Paper.{octet}
use Rattle.plan.specs.declared.Fault.{Fault}
use Rattle.plan.specs.declared.Plan.{Plan}
use Rattle.plan.proofs.Determined.{plan_injective}
use Rattle.plan_read.specs as defs
use defs.Paper.{PlanRead, read_plan}
use defs.Coded.{reading_of}

reading_injective : (r s : Result Plan Fault) → reading_of r ≡ reading_of s → r ≡ s
reading_injective (Ok p) (Ok q) e = ap Ok (plan_injective p q (ap (λ (x : PlanRead). x.plan) e))
reading_injective (Ok p) (Err f) e = absurd (number_of_positive f.refusal (sym (ap (λ (x : PlanRead). x.number) e)))
reading_injective (Err f) (Ok p) e = absurd (number_of_positive f.refusal (ap (λ (x : PlanRead). x.number) e))
reading_injective (Err f) (Err g) e =
    let refusal = number_of_injective f.refusal g.refusal (ap (λ (x : PlanRead). x.number) e) in
    λ i. Err (record { refusal = refusal i; entry = (e i).entry })

pub determined_read_plan : (file : List ℕ) → Determined (λ (r : Result Plan Fault). reading_of r ≡ read_plan file)
determined_read_plan file = determined_by reading_of reading_injective

pub determined_kind_of : (file : List ℕ) (entry : ℕ) → Determined (λ (r : ℕ). r ≡ octet file (6 * entry + 1))
determined_kind_of file entry = determined
