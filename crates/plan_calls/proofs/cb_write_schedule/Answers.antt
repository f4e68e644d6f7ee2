-- `plan_calls::cb_write_schedule` meets its contract: the output's length, then the files, then the writer's answer, packed.
use Rattle.laws.proofs.Base.{sym, ap, inl, inr, arith}
use Rattle.plan_read.specs.Paper.{PlanRead}
use Rattle.plan.specs.Coded.{plan_of}
use Rattle.plan_calls.proofs.Answers.{refuses_files, message_small}
use Rattle.plan_calls.proofs.cb_write_schedule.Goals as goal

pub returns-in-Err : goal.returns-in-Err
returns-in-Err c =
    let a = c.args in
    refuses_files a.current.now a.previous.now a.begin a.out.now (omega arith) c.in-Err.fault (inl c.in-Err.ensures) c.packed.ensures

pub returns-in-Err-last : goal.returns-in-Err-last
returns-in-Err-last c =
    let a = c.args in
    let good = sym (ap (λ (x : PlanRead). x.number) c.in-Ok.ensures) in
    refuses_files a.current.now a.previous.now a.begin a.out.now (omega arith) c.in-Err-last.fault (inr (good, c.in-Err-last.ensures)) c.packed-in-Err-last.ensures

pub overflow_cast-result : goal.overflow_cast-result
overflow_cast-result c =
    omega (arith, message_small (plan_of c.in-Ok.plan) (plan_of c.in-Ok-last.plan) c.args.begin c.args.out.now _ c.in-Ok-answer.ensures)

pub overflow_mul-result : goal.overflow_mul-result
overflow_mul-result c =
    omega (arith, message_small (plan_of c.in-Ok.plan) (plan_of c.in-Ok-last.plan) c.args.begin c.args.out.now _ c.in-Ok-answer.ensures)
