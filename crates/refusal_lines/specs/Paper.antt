-- The line that says what refused something.
use Rattle.std.specs.Prelude.{cond, List, [], ◌∷◌, ◌++◌, ℕ, eqb, ltb}
use Rattle.lines.specs.Paper.{ascii, decimal}
use Rattle.words.specs.Paper.{words}

-- a program, and the number that refuses
abbrev pub numbered : List ℕ → ℕ → List (List ℕ)
numbered program n = program ∷ ascii ": refused by " ∷ decimal n ∷ ascii ": " ∷ []

-- then what it refuses, and the number's words
abbrev pub refused : List ℕ → List ℕ → ℕ → List (List ℕ)
refused program about n = numbered program n ++ (about ∷ words n ∷ ascii "\n" ∷ [])

-- 01 Numbers given, 21 for the writer: then Begin as it was given beside the slots of the current plan
abbrev pub begin_refused : List ℕ → List ℕ → ℕ → List (List ℕ)
begin_refused program begin count =
    numbered program 21 ++ (ascii "Begin " ∷ begin ∷ ascii " is not 1 to " ∷ decimal count ∷ ascii ", the slots of the current plan\n" ∷ [])

-- 02 No. 1: what is wrong with a bad entry, by its kind; one of kind 2 is never bad, and would be told as one of kind 1
abbrev pub wrong_entry : ℕ → List (List ℕ)
wrong_entry kind =
    cond (ltb 2 kind)
    (ascii "kind " ∷ decimal kind ∷ ascii " is none of 0, 1, 2\n" ∷ [])
    (cond (eqb kind 0) (ascii "an optional slot with octets of a page\n" ∷ []) (ascii "an advised slot with octets of a page\n" ∷ []))

-- 02 No. 1: then which plan it is, the entry that is named, and what is wrong with it
abbrev pub entry_refused : List ℕ → List ℕ → ℕ → ℕ → ℕ → List (List ℕ)
entry_refused program about n entry kind = numbered program n ++ ((about ∷ ascii "entry " ∷ decimal entry ∷ ascii ": " ∷ []) ++ wrong_entry kind)
