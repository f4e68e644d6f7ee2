-- `checker_plans::beside` meets its contract: plans that are refused, and those that aren't.
use Rattle.laws.proofs.Base.{sym, ap}
use Rattle.std.proofs.lemmas.Result.{err_from_is_err_and}
use Rattle.refusals.proofs.Inverse.{number_of_positive}
use Rattle.plan.specs.Paper.{Verdict}
use Rattle.plan.specs.Coded.{plan_of}
use Rattle.checker_plans.proofs.Answers.{plans_refused, good_said}
use Rattle.checker_plans.proofs.beside.Goals as goal

pub returns-in_err-plans_answer : goal.returns-in_err-plans_answer
returns-in_err-plans_answer c =
    let a = c.args in
    let p = err_from_is_err_and c.from_residual.result c.from_residual.ensures.1 in
    rw (p.1, p.2)
    (plans_refused (plan_of a.current) (plan_of a.previous) _ _ (sym c.in_err-plans_answer.ensures) (number_of_positive _))

pub returns : goal.returns
returns c =
    let a = c.args in
    good_said (plan_of a.current) (plan_of a.previous) (ap (λ (x : Verdict). x.number) (sym c.in_ok-plans_answer.ensures)) _ c.all_planned.ensures
