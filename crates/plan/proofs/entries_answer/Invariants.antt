-- `plan::entries_answer` meets its contract. The invariant: the lowest bad entry is that of the search among the entries ahead.
use Rattle.laws.proofs.Base.{◌≡◌, ◌+◌, drop}
use Rattle.laws.specs.Search.{first_from}
use Rattle.plan.specs.Paper.{bad, lowest_bad}
use Rattle.plan.specs.Coded.{entries_of}
use Rattle.plan.proofs.entries_answer.Given as goal

abbrev pub invariant-loop-i : goal.invariant-loop-i
invariant-loop-i l = lowest_bad (entries_of l.entries) ≡ first_from bad (l.i + 1) (drop l.i (entries_of l.entries))
