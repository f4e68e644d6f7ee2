-- `descriptions::step_at` meets its contract: it gives what `description_at` gives, and passes what `passed` says.
use Rattle.descriptions.proofs.Stepping.{step_fits}
use Rattle.std.proofs.Common.{rules}
use Rattle.descriptions.proofs.step_at.Goals as goal

pub overflow_add-result : goal.overflow_add-result
overflow_add-result c = record { fits = step_fits _ _ _ _ _ c.description_at-given.ensures c.passed.ensures (search rules) }
