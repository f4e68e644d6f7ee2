-- `logs::list_all` meets its contract. The invariant: state, number and text are those that the log so far leaves.
use Rattle.laws.proofs.Base.{◌-◌}
use Rattle.logs.proofs.Turns.{Going}
use Rattle.logs.proofs.list_all.Given as goal

abbrev pub invariant-loop-number : goal.invariant-loop-number
invariant-loop-number g l = Going (g.L.Listing.line l.form) g.row.ROOM l.state l.lines.memory.now l.log l.message l.number l.lines.end

abbrev pub decreases-loop-number : goal.decreases-loop-number
decreases-loop-number g l = 1000000000000000000 - l.number
