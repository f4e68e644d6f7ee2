-- `checker::judge_each` meets its contract: the slots before the loop's are judged.
use Rattle.laws.proofs.Base.{◌≡◌, length, take}
use Rattle.laws.specs.Upto.{each}
use Rattle.checker.specs.Coded.{rule_by}
use Rattle.checker.proofs.judge_each.Given as goal

abbrev pub invariant-loop-i : goal.invariant-loop-i
invariant-loop-i l = (length l.verdicts ≡ 48) × (take l.i l.verdicts ≡ each (rule_by l.all l.message l.places l.count) l.i)
