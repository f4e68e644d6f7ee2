-- `descriptions::all_given` meets its contract. The invariant: the slots given so far stand in their places, and none of the answers was the last.
use Rattle.laws.proofs.Base.{◌≡◌}
use Rattle.descriptions.proofs.Giving.{Gave}
use Rattle.descriptions.proofs.all_given.Given as goal

abbrev pub invariant-loop : goal.invariant-loop
invariant-loop l = (l.place ≡ l.counter) × Gave l.message l.received l.place l.slots
