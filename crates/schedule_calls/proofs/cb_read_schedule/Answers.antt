-- `schedule_calls::cb_read_schedule` meets its contract: the schedule room's answer, packed.
use Rattle.laws.proofs.Base.{◌<◌, arith}
use Rattle.schedule_calls.proofs.Given.{begin_end_small}
use Rattle.schedule_calls.proofs.cb_read_schedule.Goals as goal

pub overflow_cast-result : goal.overflow_cast-result
overflow_cast-result c =
    let few : (c.in-Ok.span.begin < 64) × (c.in-Ok.span.end < 64) = let a = c.args in begin_end_small a.message.now a.received _ c.in-Ok.ensures in
    omega (arith, few)

pub overflow_mul-result : goal.overflow_mul-result
overflow_mul-result c =
    let few : (c.in-Ok.span.begin < 64) × (c.in-Ok.span.end < 64) = let a = c.args in begin_end_small a.message.now a.received _ c.in-Ok.ensures in
    omega (arith, few)

pub overflow_cast-result-in-Ok : goal.overflow_cast-result-in-Ok
overflow_cast-result-in-Ok c =
    let few : (c.in-Ok.span.begin < 64) × (c.in-Ok.span.end < 64) = let a = c.args in begin_end_small a.message.now a.received _ c.in-Ok.ensures in
    omega (arith, few)

pub overflow_mul-result-in-Ok : goal.overflow_mul-result-in-Ok
overflow_mul-result-in-Ok c =
    let few : (c.in-Ok.span.begin < 64) × (c.in-Ok.span.end < 64) = let a = c.args in begin_end_small a.message.now a.received _ c.in-Ok.ensures in
    omega (arith, few)

pub overflow_add-result : goal.overflow_add-result
overflow_add-result c =
    let few : (c.in-Ok.span.begin < 64) × (c.in-Ok.span.end < 64) = let a = c.args in begin_end_small a.message.now a.received _ c.in-Ok.ensures in
    omega (arith, few)
