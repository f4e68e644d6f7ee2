-- The room that a line needs.
use Rattle.laws.proofs.Base.{ℕ, ◌≤◌, arith, length, length-append}
use Rattle.lines.specs.Paper.{flat}
use Rattle.lines.proofs.Numbers.{length_spelled}
use Rattle.cblist.specs.Paper.{line}

pub line_wide : (n answer received : ℕ) → length (flat (line n answer received)) ≤ 63
unfolding flat
line_wide n answer received = simp length-append (omega (arith, length_spelled 19 n, length_spelled 19 answer, length_spelled 19 received))
