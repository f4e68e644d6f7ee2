-- `sender::write_schedule` meets its contract: each refusal is the first test of the order that holds, and what is left is the message's.
use Rattle.std.proofs.lemmas.Result.{err_from_is_err_and}
use Rattle.laws.proofs.Base.{◌≡◌, sym, ap}
use Rattle.refusals.specs.Number.{number_of}
use Rattle.refusals.proofs.Inverse.{number_of_positive}
use Rattle.plan.specs.Paper.{Verdict, plans_number}
use Rattle.plan.specs.Coded.{plan_of}
use Rattle.plan.proofs.Plans.{plans_counted}
use Rattle.sender_message.specs.Coded.{shown_in}
use Rattle.sender.proofs.Cases.{leaves_15, leaves_plans, leaves_message}
use Rattle.sender.proofs.write_schedule.Goals as goal

pub returns-then-out-ne-MESSAGE : goal.returns-then-out-ne-MESSAGE
returns-then-out-ne-MESSAGE c =
    let a = c.args in
    rw c.from.ensures (sym (leaves_15 (plan_of a.current) (plan_of a.previous) a.begin a.out.now c.if-out-ne-MESSAGE.true))

pub returns-in_err-plans_answer : goal.returns-in_err-plans_answer
returns-in_err-plans_answer c =
    let a = c.args in
    let e = c.in_err-plans_answer.field-0.0 in
    let p = err_from_is_err_and c.from_residual.result c.from_residual.ensures.1 in
    rw (p.1, p.2)
    (sym (leaves_plans (plan_of a.current) (plan_of a.previous) a.begin a.out.now c.if-out-ne-MESSAGE.false (number_of e.refusal) e.entry
    (sym c.in_err-plans_answer.ensures) (number_of_positive e.refusal)))

pub telling-slots-requires : goal.telling-slots-requires
telling-slots-requires c =
    let a = c.args in
    plans_counted (plan_of a.current) (plan_of a.previous) (ap (λ (v : Verdict). v.number) (sym c.in_ok-plans_answer.ensures))

pub returns-in_err-used : goal.returns-in_err-used
returns-in_err-used c =
    let a = c.args in
    let good : plans_number (plan_of a.current) (plan_of a.previous) ≡ 0 = ap (λ (v : Verdict). v.number) (sym c.in_ok-plans_answer.ensures) in
    let p = err_from_is_err_and c.from_residual-in_err-used.result c.from_residual-in_err-used.ensures.1 in
    rw (p.1, p.2)
    (leaves_message (plan_of a.current) (plan_of a.previous) a.begin a.out.now c.if-out-ne-MESSAGE.false good (shown_in c.telling-slots.result)
    c.telling-slots.ensures _ c.in_err-used.ensures)

pub returns : goal.returns
returns c =
    let a = c.args in
    let good : plans_number (plan_of a.current) (plan_of a.previous) ≡ 0 = ap (λ (v : Verdict). v.number) (sym c.in_ok-plans_answer.ensures) in
    leaves_message (plan_of a.current) (plan_of a.previous) a.begin a.out.now c.if-out-ne-MESSAGE.false good (shown_in c.telling-slots.result)
    c.telling-slots.ensures _ c.in_ok-used.ensures
