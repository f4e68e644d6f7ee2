-- `checker::check_slots` meets its contract: plans that are refused answer, and else the message is compared.
use Rattle.laws.proofs.Base.{◌≡◌, refl, ◌∙◌}
use Rattle.std.proofs.lemmas.Result.{err_from_is_err_and}
use Rattle.refusals.proofs.Inverse.{number_of_positive}
use Rattle.checker_plans.specs.Coded.{plans_of}
use Rattle.checker.proofs.Answers.{plans_refused, plans_good}
use Rattle.std.proofs.Common.{rules}
use Rattle.checker.proofs.check_slots.Goals as goal

pub returns-in_err-said : goal.returns-in_err-said
returns-in_err-said c =
    let a = c.args in
    let p = err_from_is_err_and c.from_residual.result c.from_residual.ensures.1 in
    let kept : c.in-Some.verdicts.now ≡ a.verdicts.now = c.in-Some.ensures.cases.same in
    rw (p.1, p.2, c.in_err-said.was, kept) (plans_refused _ a.message.now a.received a.verdicts.now c.in-Some.ensures.cases.long _ _ (number_of_positive _) refl refl)

pub returns : goal.returns
returns c =
    let a = c.args in
    let kept : c.in-Some.verdicts.now ≡ a.verdicts.now = c.in-Some.ensures.cases.same in
    rw c.in_ok-said.was (rw kept at c.compare.ensures ∙ plans_good _ a.message.now a.received a.verdicts.now c.in-Some.ensures.cases.long refl)
