-- `logs::list` meets its contract. The invariant: the text so far and the lines of the pieces to come are the listing.
use Rattle.laws.proofs.Base.{◌*◌, drop}
use Rattle.logs.proofs.Listed.{Listed}
use Rattle.logs.proofs.list.Given as goal

abbrev pub invariant-loop-k : goal.invariant-loop-k
invariant-loop-k g l =
    Listed (g.L.Listing.line l.form) g.L.Listing.wide g.row.ROOM l.initial.state l.first l.log (drop (l.k * 23) l.log) l.state l.message l.lines.memory.now l.number l.lines.end
