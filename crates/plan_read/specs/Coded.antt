-- What the code reads from a plan file as the documents' numbers and plan.
use Rattle.std.specs.Prelude.{Result, Ok, Err}
use Rattle.refusals.specs.Number.{number_of}
use Rattle.plan.specs.Paper.{empty}
use Rattle.plan.specs.Coded.{plan_of}
use Rattle.plan.specs.declared.Fault.{Fault}
use Rattle.plan.specs.declared.Plan.{Plan}
use Rattle.plan_read.specs.Paper.{PlanRead}

-- what reading gave: a plan, or a number and an entry and the empty plan
abbrev pub reading_of : Result Plan Fault → PlanRead
reading_of (Ok p) = record { number = 0; entry = 0; plan = plan_of p }
reading_of (Err f) = record { number = number_of f.refusal; entry = f.entry; plan = empty }
