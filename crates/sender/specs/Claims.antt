-- What is promised of the entry that the schedule writer names.
use Rattle.std.specs.Prelude.{ℕ, List}
use Rattle.plan.specs.Paper.{Plan, entries_within}
use Rattle.plan.specs.Claims.{NamesBad, first_refused}
use Rattle.sender.specs.Paper.{write, write_schedule}

-- 02 No. 1: with 36 and 37 the writer names the lowest bad entry of the first plan that is refused, with every other number none
abbrev pub WriterNamesLowestBad : Type 0
WriterNamesLowestBad =
    (c p : Plan) (b : ℕ) (o : List ℕ) → NamesBad (entries_within (first_refused c p)) (write c p b o).number (write_schedule c p b o).entry
