-- `text_reader::reading::read_each` meets its contract. The invariant: the characters up to place i are written.
use Rattle.laws.proofs.Base.{◌≡◌, ◌-◌, length}
use Rattle.text_reader.proofs.Nexts.{Reached}
use Rattle.text_reader.proofs.reading.read_each.Given as goal

abbrev pub invariant-loop-i : goal.invariant-loop-i
invariant-loop-i l = (length l.text ≡ length l.initial.text) × Reached l.septets l.text l.at l.floor l.i

abbrev pub decreases-loop-i : goal.decreases-loop-i
decreases-loop-i l = length l.septets - l.i
