-- What is said of a thing that the system refused.
use Rattle.std.specs.Prelude.{List, [], ◌∷◌, ℕ}
use Rattle.lines.specs.Paper.{ascii}

-- what the system refused, by the program's name and its own
abbrev pub faulty : List ℕ → List ℕ → List (List ℕ)
faulty program name = program ∷ ascii ": " ∷ name ∷ []
