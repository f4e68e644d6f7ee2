-- What the inner functions give, in the paper's terms.
use Rattle.std.specs.Prelude.{cond, List}
use Rattle.laws.specs.Search.{some}
use Rattle.plan.specs.Paper.{Entry, Verdict, bad, lowest_bad, lowest_fault}

-- what is said of entries: the fault of the lowest bad one and its number, or 0 and 0
abbrev pub entries_answer : List Entry → Verdict
entries_answer es = record { number = cond (some bad es) (lowest_fault es) 0; entry = lowest_bad es }
