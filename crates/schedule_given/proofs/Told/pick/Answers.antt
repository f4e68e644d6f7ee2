-- `schedule_given::Told::pick` meets its contract. The invariant: the slots of the group that were passed and those still to pass make up the place.
use Rattle.laws.proofs.Base.{arith}
use Rattle.laws.proofs.Upto.{count_none, count_yes, count_no}
use Rattle.schedule.specs.Paper.{grouped}
use Rattle.schedule.proofs.News.{grouped_told}
use Rattle.schedule_given.proofs.Told.pick.Goals as goal
use Rattle.schedule_given.proofs.Told.pick.Goals.{else-is_new-new, then-is_new-new+else-left-eq0}

pub loop-i-init : goal.loop-i-init
loop-i-init c = omega (arith, count_none (grouped c.args.self.message.now c.args.new))

pub loop-i-preserved : goal.loop-i-preserved
loop-i-preserved c =
    let a = c.args in
    let l = c.loop-i in
    let bit = c.is_new in
    let g = grouped a.self.message.now a.new in
    elim c.if-is_new-new.branch [
      | then-is_new-new+else-left-eq0 w ↦ omega (arith, w.if-left-eq0, w.left-is, count_yes g l.i (grouped_told a.self.message.now l.i a.new _ _ bit.ensures w.if-is_new-new.true))
      | else-is_new-new w ↦ omega (arith, w.left-is, count_no g l.i (grouped_told a.self.message.now l.i a.new _ _ bit.ensures w.if-is_new-new.false))
    ]
