-- `Text::put_hex` meets its contract. The invariant: the digits so far stand at their place, those left are the rest's, and the memory is the one that was lent.
use Rattle.laws.proofs.Base.{◌≡◌}
use Rattle.lines.proofs.Numbers.{Written}
use Rattle.lines.proofs.Text.put_hex.Given as goal

abbrev pub invariant-loop-i : goal.invariant-loop-i
invariant-loop-i l =
    Written l.number l.count l.at l.initial.self.memory.now l.self.memory.now l.i l.rest
    × (l.self.memory.ghost_name ≡ l.initial.self.memory.ghost_name)
