-- `checker::compare` meets its contract: each answer is told from the places of the message's descriptions.
use Rattle.laws.proofs.Base.{refl, ap, ◌∙◌, add-one, arith, ◌+◌}
use Rattle.std.proofs.lemmas.Result.{err_from_is_err_and}
use Rattle.checker.specs.Inner.{breaks}
use Rattle.checker.proofs.Comparing.{lowest_few, lowest_position, found_refused, found_differs, found_true, found_untrue}
use Rattle.checker.specs.Coded.{slot_of}
use Rattle.std.proofs.Common.{rules}
use Rattle.checker.proofs.compare.Goals as goal

pub returns-in_err-placed : goal.returns-in_err-placed
returns-in_err-placed c =
    let a = c.args in
    let p = err_from_is_err_and c.from_residual.result c.from_residual.ensures.1 in
    rw (p.1, p.2) (found_refused a.plans.now.count a.plans.now.said a.message.now a.received a.verdicts.now _ c.in_err-placed.ensures _ refl)

pub returns-then-end-plans : goal.returns-then-end-plans
returns-then-end-plans c =
    let a = c.args in
    rw c.into.ensures
    (found_differs a.plans.now.count a.plans.now.said a.message.now a.received a.verdicts.now _ c.in_ok-placed.ensures
    _ _ refl (λ e. omega (arith, c.if-end-plans.true)))

pub overflow_add-result : goal.overflow_add-result
overflow_add-result c = let few = lowest_few (breaks c.judge_each.new.verdicts) 48 in omega (arith, few, ap slot_of c.in-Some.ensures ∙ lowest_position c.judge_each.new.verdicts (search rules))

pub returns-in-Some : goal.returns-in-Some
returns-in-Some c =
    let a = c.args in
    found_untrue a.plans.now.count a.plans.now.said a.message.now a.received a.verdicts.now _ c.in_ok-placed.ensures
    _ _ refl c.if-end-plans.false _ c.judge_each.ensures (c.in-Some.i + 1) (add-one c.in-Some.i ∙ (ap slot_of c.in-Some.ensures ∙ lowest_position c.judge_each.new.verdicts (search rules))) (λ z. omega arith)

pub returns-in-None : goal.returns-in-None
returns-in-None c =
    let a = c.args in
    found_true a.plans.now.count a.plans.now.said a.message.now a.received a.verdicts.now _ c.in_ok-placed.ensures
    _ _ refl c.if-end-plans.false _ c.judge_each.ensures 0 (ap slot_of c.in-None.ensures ∙ lowest_position c.judge_each.new.verdicts (search rules)) refl
