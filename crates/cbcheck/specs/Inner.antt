-- How the program has a message checked.
use Rattle.std.specs.Prelude.{List, ℕ, replicate}
use Rattle.checker.specs.Paper.{SlotsChecked}
use Rattle.checker.specs.Inner.{slots_beside}
use Rattle.checker_plans.specs.Inner.{Plans}

-- checking by what two plans say, with fresh memory for the verdicts
abbrev pub fresh_beside : Plans → List ℕ → ℕ → SlotsChecked
fresh_beside b m received = slots_beside b m received (replicate 48 0)
