-- `collector::blank_pages` meets its contract. The invariant: in front stands what was there, then a blank page for each turn, then what was there.
use Rattle.laws.proofs.Base.{arith}
use Rattle.collector.proofs.Places.{blank_none, blank_turn, blank_size}
use Rattle.std.proofs.Common.{rules}
use Rattle.collector.proofs.blank_pages.Goals as goal

pub loop-i-init : goal.loop-i-init
loop-i-init c =
    let a = c.args in
    (blank_none a.memory.now a.from, search rules)

pub loop-i-preserved : goal.loop-i-preserved
loop-i-preserved c =
    let l = c.loop-i in
    let turn = blank_turn c.args.memory.now l.memory c.args.from l.i (omega arith) (search rules) l.invariant.0 c.copy.new.to (omega arith) l.invariant.1 c.copy.ensures in
    (turn, blank_size c.args.memory.now l.memory c.args.from l.i (omega arith) (search rules) l.invariant.0 c.copy.new.to (omega arith) l.invariant.1 c.copy.ensures)
