-- `trial::read_full` meets its contract. The invariant: no more than the room is filled, and it keeps its length.
use Rattle.laws.proofs.Base.{◌≡◌, ◌-◌, ◌≤◌, length}
use Rattle.trial.proofs.read_full.Given as goal

abbrev pub invariant-loop-have : goal.invariant-loop-have
invariant-loop-have g l = (l.have ≤ length l.initial.room) × (length l.room ≡ length l.initial.room)

abbrev pub decreases-loop-have : goal.decreases-loop-have
decreases-loop-have g l = length l.initial.room - l.have
