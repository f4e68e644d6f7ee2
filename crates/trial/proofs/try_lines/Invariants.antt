-- The loop of `trial::try_lines`: what is left gets shorter.
use Rattle.std.proofs.Common.{ℕ, length}
use Rattle.trial.proofs.try_lines.Given as goal

abbrev pub decreases-loop-rest : goal.decreases-loop-rest
decreases-loop-rest g l = length l.rest
