-- The reader's answer as the paper's numbers, with what it leaves in lent memory.
use Rattle.std.specs.Prelude.{ℕ, List, Result, Ok, Err}
use Rattle.refusals.specs.declared.Refusal.{Refusal}
use Rattle.refusals.specs.Number.{number_of}
use Rattle.text.specs.Paper.{Reading}

-- a reader's answer and the text that it leaves
abbrev pub reading_of : Result ℕ Refusal → List ℕ → Reading
reading_of (Ok n) t = record { number = 0; characters = n; text = t }
reading_of (Err r) t = record { number = number_of r; characters = 0; text = t }
