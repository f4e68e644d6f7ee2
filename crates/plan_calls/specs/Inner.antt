-- What the inner functions give, in the paper's terms.
use Rattle.std.specs.Prelude.{◌≡◌, ◌⊎◌, List, ℕ, Result, Ok, Err}
use Rattle.plan.specs.declared.Fault.{Fault}
use Rattle.plan.specs.declared.Plan.{Plan}
use Rattle.plan_read.specs.Paper.{read_plan}
use Rattle.plan_read.specs.Coded.{reading_of}

-- 01 Order: what is read of two plan files: both plans, or why the current one is refused, or why the previous one is where the current one is good
abbrev pub Both : List ℕ → List ℕ → Result (Plan × Plan) Fault → Type 0
Both c p (Ok q) = (reading_of (Ok q.0) ≡ read_plan c) × (reading_of (Ok q.1) ≡ read_plan p)
Both c p (Err f) = (reading_of (Err f) ≡ read_plan c) ⊎ (((read_plan c).number ≡ 0) × (reading_of (Err f) ≡ read_plan p))
