-- `checker::judge_each` meets its contract: the slots before the loop's are judged.
use Rattle.laws.proofs.Base.{arith, length-set}
use Rattle.laws.proofs.Upto.{each_start, each_turn}
use Rattle.std.proofs.Common.{rules}
use Rattle.checker.proofs.judge_each.Goals as goal

pub loop-i-init : goal.loop-i-init
loop-i-init c =
    let a = c.args in
    (search rules, each_start _ a.verdicts.now)

pub loop-i-preserved : goal.loop-i-preserved
loop-i-preserved c =
    let l = c.loop-i in
    (simp length-set (omega arith), each_turn _ l.verdicts l.i l.invariant.1 _ c.judge.ensures (omega arith))
