-- `cbwrite::compose` meets its contract: the schedule writer's answer decides.
use Rattle.laws.proofs.Base.{◌∙◌}
use Rattle.plan.specs.Coded.{plan_of}
use Rattle.cbwrite.proofs.Composed.{written_composed, refused_composed}
use Rattle.cbwrite.proofs.compose.Goals as goal

pub returns-in-Ok : goal.returns-in-Ok
returns-in-Ok c =
    let wrote = c.write_schedule-answer in
    let a = c.args in
    c.write_blocks.ensures
    ∙ written_composed (plan_of a.current) (plan_of a.previous) a.begin a.out.now wrote.new.out wrote.ensures c.in-Ok.is

pub returns-in-Err : goal.returns-in-Err
returns-in-Err c =
    let wrote = c.write_schedule-answer in
    let a = c.args in
    refused_composed (plan_of a.current) (plan_of a.previous) a.begin a.out.now wrote.new.out wrote.ensures c.in-Err.is
