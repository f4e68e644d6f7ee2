-- What a program's arguments ask for.
use Rattle.std.specs.Prelude.{Bool, true, false, cond, ◌&&◌, List, [], ◌∷◌, ℕ, eqb, leb}
use Rattle.lines.specs.Paper.{ascii}
use Rattle.arguments.specs.declared.Asked.{Asked}
use Rattle.arguments.specs.declared.Asked.TheVariants.{Work, Help, Usage}

-- whether two texts are one
unfoldable pub same_text : List ℕ → List ℕ → Bool
same_text [] [] = true
same_text [] (y ∷ ys) = false
same_text (x ∷ xs) [] = false
same_text (x ∷ xs) (y ∷ ys) = eqb x y && same_text xs ys

-- --help behind the program's name, and nothing else
unfoldable pub help_asked : ℕ → List ℕ → Bool
help_asked count first = eqb count 2 && same_text first (ascii "--help")

-- help; the work where the arguments are as many as the program takes; and otherwise how it is used
abbrev pub asked_by : ℕ → List ℕ → ℕ → ℕ → Asked
asked_by count first fewest most = cond (help_asked count first) Help (cond (leb fewest count && leb count most) Work Usage)
