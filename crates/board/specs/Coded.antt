-- The code's values as document 01's numbers and lists.
use Rattle.std.specs.Prelude.{ℕ, true, false, List, map, length, Result, Ok, Err}
use Rattle.refusals.specs.Number.{number_of}
use Rattle.refusals.specs.declared.Refusal.{Refusal}
use Rattle.page.specs.declared.MessageId.{MessageId}
use Rattle.board.specs.declared.Wanted.{Wanted as WantedCode}
use Rattle.board.specs.declared.Decision.{Decision}
use Rattle.board.specs.declared.Decision.TheVariants.{Read, Skip}
use Rattle.board.specs.Paper.{Wanted, Decided, undecided}

-- identifiers as their numbers
abbrev pub id_of : MessageId → ℕ
id_of x = x.0

abbrev pub ids_of : List MessageId → List ℕ
ids_of xs = map id_of xs

abbrev pub wanted_of : WantedCode → Wanted
wanted_of w = record { count = w.count; ids = ids_of w.ids }

-- the identifiers of a list that is lent
abbrev pub lent_wanted : List ℕ → Wanted
lent_wanted l = record { count = length l; ids = l }

-- 0 with read or skip, or the refusal's number with skip
abbrev pub decided_of : Result Decision Refusal → Decided
decided_of (Ok Read) = record { number = 0; read = true }
decided_of (Ok Skip) = record { number = 0; read = false }
decided_of (Err r) = undecided (number_of r)
