-- `plan_calls::cb_read_plan` meets its contract: the plan room's answer, packed.
use Rattle.laws.proofs.Base.{arith}
use Rattle.plan_calls.proofs.Planned.{count_small}
use Rattle.plan_calls.proofs.cb_read_plan.Goals as goal

pub overflow_cast-result : goal.overflow_cast-result
overflow_cast-result c = let few = count_small c.args.file.now c.in-Ok.plan c.in-Ok.ensures in omega (arith, few)

pub overflow_mul-result : goal.overflow_mul-result
overflow_mul-result c = let few = count_small c.args.file.now c.in-Ok.plan c.in-Ok.ensures in omega (arith, few)
