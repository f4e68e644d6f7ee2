-- `plan_slots::mark_all` meets its contract. The invariant: the entries passed have their marks.
use Rattle.laws.proofs.Base.{◌<◌, length}
use Rattle.plan_slots.proofs.Marks.{marks_more}
use Rattle.std.proofs.Common.{rules}
use Rattle.plan_slots.proofs.mark_all.Goals as goal

pub loop-i-preserved : goal.loop-i-preserved
loop-i-preserved c =
    let es = c.args.entries.now in
    let l = c.loop-i in
    let k : l.i < length es = search rules in
    marks_more es l.marks l.i c.mark.result k l.invariant c.mark.ensures
