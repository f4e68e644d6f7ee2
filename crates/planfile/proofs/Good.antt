-- A plan that was taken is good, and so is the empty one.
use Rattle.laws.proofs.Base.{◌≡◌, sym, ap, ◌∙◌, List, [], ℕ, eqb, ne_eqb}
use Rattle.std.specs.Prelude.{Result, Ok, Err}
use Rattle.std.specs.Result.{result_ok}
use Rattle.refusals.specs.Number.{number_of}
use Rattle.refusals.proofs.Inverse.{number_of_positive}
use Rattle.plan.specs.declared.Fault.{Fault}
use Rattle.plan.specs.declared.Plan.{Plan as PlanCode}
use Rattle.plan_read.specs.Paper.{PlanRead, read_plan}
use Rattle.plan.specs.Paper.{empty, plan_number}
use Rattle.plan_read.specs.Coded.{reading_of}
use Rattle.plan_read.proofs.ReadGood.{read_is_good}
use Rattle.planfile.specs.Inner.{Taken, taken_of, taken, untaken}

pub untaken_good : plan_number untaken.plan ≡ 0
unfolding read_plan
untaken_good = read_is_good []

pub taken_good : (t : Taken) (f : List ℕ) → t ≡ taken f → plan_number t.plan ≡ 0
unfolding taken
taken_good t f e = ap (λ (x : Taken). plan_number x.plan) e ∙ read_is_good f

-- what a file gives is taken where it is a plan
pub takes : (f : List ℕ) (r : Result PlanCode Fault) → reading_of r ≡ read_plan f → taken_of (result_ok r) ≡ taken f
unfolding taken
takes f (Ok p) e = ap (λ (x : PlanRead). record { good = eqb x.number 0; plan = x.plan }) e
takes f (Err why) e =
    (λ i. record { good = sym (ne_eqb (number_of why.refusal) 0 (number_of_positive why.refusal)) i; plan = empty })
    ∙ ap (λ (x : PlanRead). record { good = eqb x.number 0; plan = x.plan }) e
