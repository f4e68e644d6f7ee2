-- `plan_read::read_plan` meets its contract: the front's answer, then the plan's.
use Rattle.laws.proofs.Base.{sym, ap, ◌∙◌, arith}
use Rattle.refusals.proofs.Inverse.{number_of_positive}
use Rattle.plan.specs.Paper.{Verdict}
use Rattle.plan.specs.Coded.{verdict_of}
use Rattle.std.proofs.lemmas.Result.{err_from_is_err_and}
use Rattle.plan_read.proofs.Answers.{front_refuses, front_counts, plan_refuses, plan_passes}
use Rattle.plan_read.proofs.read_plan.Goals as goal

pub returns-in_err-front_answer : goal.returns-in_err-front_answer
returns-in_err-front_answer c =
    let p = err_from_is_err_and c.from_residual.result c.from_residual.ensures.1 in
    rw (p.1, p.2) (sym (front_refuses c.args.file.now _ (sym c.in_err-front_answer.ensures) (number_of_positive _)))

pub bounds-file-5 : goal.bounds-file-5
bounds-file-5 c = let n = front_counts c.args.file.now (sym c.in_ok-front_answer.ensures) in omega arith

pub entries_of-requires : goal.entries_of-requires
entries_of-requires c = let n = front_counts c.args.file.now (sym c.in_ok-front_answer.ensures) in (n.0, omega arith)

pub returns : goal.returns
returns c =
    sym
    (plan_passes c.args.file.now (sym c.in_ok-front_answer.ensures) _ c.entries_of.ensures
    (ap (λ (v : Verdict). v.number) (sym c.plan_answer-answer.ensures ∙ ap verdict_of c.in_default.is)))

pub returns-in-Err : goal.returns-in-Err
returns-in-Err c =
    sym
    (plan_refuses c.args.file.now (sym c.in_ok-front_answer.ensures) _ c.entries_of.ensures _ _
    (sym c.plan_answer-answer.ensures ∙ ap verdict_of c.in-Err.is) (number_of_positive _))
