-- `plan_calls::check_files` meets its contract: the files, then the checker's answer, packed, and the verdicts that it leaves.
use Rattle.std.specs.Prelude.{Err}
use Rattle.laws.proofs.Base.{ap, ◌∙◌, arith}
use Rattle.plan.specs.Coded.{plan_of}
use Rattle.checker.specs.Inner.{slots_beside}
use Rattle.checker_plans.specs.Inner.{Plans}
use Rattle.plan_calls.specs.Paper.{packed_slots}
use Rattle.plan_calls.proofs.Answers.{as_beside, named_small}
use Rattle.plan_calls.proofs.check_files.Goals as goal

pub overflow_cast-result : goal.overflow_cast-result
overflow_cast-result c =
    let a = c.args in
    let checks = c.in-Err-answer.ensures ∙ ap (λ (b : Plans). slots_beside b a.message.now a.received a.verdicts.now) c.beside-said.ensures in
    omega (arith, named_small (plan_of c.in-Ok.plan) (plan_of c.in-Ok-last.plan) a.message.now a.received a.verdicts.now _ (Err c.in-Err-answer.fault) (omega arith) checks)

pub overflow_mul-result : goal.overflow_mul-result
overflow_mul-result c =
    let a = c.args in
    let checks = c.in-Err-answer.ensures ∙ ap (λ (b : Plans). slots_beside b a.message.now a.received a.verdicts.now) c.beside-said.ensures in
    omega (arith, named_small (plan_of c.in-Ok.plan) (plan_of c.in-Ok-last.plan) a.message.now a.received a.verdicts.now _ (Err c.in-Err-answer.fault) (omega arith) checks)

pub overflow_add-result : goal.overflow_add-result
overflow_add-result c =
    let a = c.args in
    let checks = c.in-Err-answer.ensures ∙ ap (λ (b : Plans). slots_beside b a.message.now a.received a.verdicts.now) c.beside-said.ensures in
    omega (
      arith,
      named_small (plan_of c.in-Ok.plan) (plan_of c.in-Ok-last.plan) a.message.now a.received a.verdicts.now _ (Err c.in-Err-answer.fault) (omega arith) checks,
      c.from-in-Err-answer.ensures,
      c.from.type_inv,
    )

pub returns-in-Ok-answer : goal.returns-in-Ok-answer
returns-in-Ok-answer c =
    let a = c.args in
    let checks = c.in-Ok-answer.ensures ∙ ap (λ (b : Plans). slots_beside b a.message.now a.received a.verdicts.now) c.beside-said.ensures in
    ap packed_slots (as_beside a.current.now a.previous.now a.message.now a.received a.verdicts.now (omega arith) (c.in-Ok.plan, c.in-Ok-last.plan) (c.in-Ok.ensures, c.in-Ok-last.ensures) checks)

pub returns-in-Err-answer : goal.returns-in-Err-answer
returns-in-Err-answer c =
    let a = c.args in
    let checks = c.in-Err-answer.ensures ∙ ap (λ (b : Plans). slots_beside b a.message.now a.received a.verdicts.now) c.beside-said.ensures in
    rw (c.from-in-Err-answer.ensures, c.from.ensures)
    (ap packed_slots (as_beside a.current.now a.previous.now a.message.now a.received a.verdicts.now (omega arith) (c.in-Ok.plan, c.in-Ok-last.plan) (c.in-Ok.ensures, c.in-Ok-last.ensures) checks))
