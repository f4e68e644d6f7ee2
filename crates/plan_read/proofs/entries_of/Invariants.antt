-- `plan_read::entries_of` meets its contract. The invariant: the entries so far stand at the front, and the rest is optional.
use Rattle.laws.proofs.Base.{◌≡◌, ◌++◌, ◌-◌, length, drop, replicate}
use Rattle.plan.specs.Paper.{free}
use Rattle.plan_read.specs.Paper.{entries_in}
use Rattle.plan.specs.Coded.{entries_of}
use Rattle.plan_read.proofs.entries_of.Given as goal

abbrev pub invariant-loop-i : goal.invariant-loop-i
invariant-loop-i l = (entries_of l.entries ≡ entries_in l.i (drop 6 l.file) ++ replicate (48 - l.i) free) × (length l.entries ≡ 48)
