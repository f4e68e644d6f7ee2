-- What taking a plan file gives: whether the file is good, and its plan.
use Rattle.std.specs.Prelude.{Bool, true, false, List, ℕ, Option, Some, None, eqb}
use Rattle.plan.specs.Paper.{Plan, empty}
use Rattle.plan_read.specs.Paper.{read_plan}
use Rattle.plan.specs.Coded.{plan_of}
use Rattle.plan.specs.declared.Plan.{Plan as PlanCode}

pub record Taken : Type 0 where
  pub good : Bool
  pub plan : Plan

-- 01 Order: with a refusal the plan is empty
abbrev pub untaken : Taken
untaken = record { good = false; plan = empty }

abbrev pub taken_of : Option PlanCode → Taken
taken_of (Some p) = record { good = true; plan = plan_of p }
taken_of None = untaken

-- 01 The plan, Order: good where reading answers 0, and the plan that it gives
unfoldable pub taken : List ℕ → Taken
taken f = record { good = eqb (read_plan f).number 0; plan = (read_plan f).plan }
