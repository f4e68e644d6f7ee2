-- `files::fill` meets its contract. The invariant: no more than the memory is filled.
use Rattle.laws.proofs.Base.{◌≡◌, ◌-◌, ◌≤◌, length}
use Rattle.files.proofs.fill.Given as goal

abbrev pub invariant-loop-have : goal.invariant-loop-have
invariant-loop-have g l = (l.have ≤ length l.initial.memory) × (length l.memory ≡ length l.initial.memory)

abbrev pub decreases-loop-have : goal.decreases-loop-have
decreases-loop-have g l = length l.initial.memory - l.have
