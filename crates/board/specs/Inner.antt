-- A list of identifiers in the shape of the code, and what the inner functions give, in the paper's terms.
use Rattle.std.specs.Prelude.{ℕ, ◌-◌, Bool, true, false, List, ◌++◌, length, take, replicate}
use Rattle.schedule.specs.Paper.{Told, first, again, optional, advised}
use Rattle.board.specs.Paper.{Wanted}

-- 01 Decision: identifiers of which so many, from the first on, are wanted
abbrev pub counted : ℕ → List ℕ → Wanted
counted n ids = record { count = n; ids = ids }

-- 01 Decision, Numbers given, 42: a list's identifiers by value: how many there are, and the first 64 of them; 0 in the places that are left, which are past the count and mean nothing
abbrev pub filled_wanted : List ℕ → Wanted
filled_wanted l = counted (length l) (take 64 l ++ replicate (64 - length l) 0)

-- 01 Decision: whether a slot is read by what is told of it, where its page's first transmission matches or not, and matches and isn't held or not
abbrev pub reads_by : Bool → Bool → Told → Bool
reads_by matches missing (first x) = matches
reads_by matches missing (again n) = missing
reads_by matches missing optional = false
reads_by matches missing advised = true
