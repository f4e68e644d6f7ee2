-- The code's finding for two plans in numbers.
use Rattle.std.specs.Prelude.{map, Result, Ok, Err}
use Rattle.refusals.specs.Number.{number_of}
use Rattle.plan.specs.declared.Fault.{Fault}
use Rattle.plan_slots.specs.Coded.{planned_of}
use Rattle.checker_plans.specs.declared.Said.{Said}
use Rattle.checker_plans.specs.Inner.{Plans, unsaid}

-- what two plans say, with 0 for good ones, or the refusal's number and the entry that comes with it, and nothing said
abbrev pub plans_of : Result Said Fault → Plans
plans_of (Ok b) = record { number = 0; entry = 0; count = b.count; said = map planned_of b.said }
plans_of (Err f) = unsaid f.entry (number_of f.refusal)
