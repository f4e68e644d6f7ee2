-- The code's answers as the paper's numbers.
use Rattle.std.specs.Prelude.{ℕ, Result, Ok, Err}
use Rattle.refusals.specs.Number.{number_of}
use Rattle.refusals.specs.declared.Refusal.{Refusal}
use Rattle.collector.specs.declared.Answer.{Answer}
use Rattle.collector.specs.declared.Answer.TheVariants.{HandedOut, Kept}

-- 02 No. 3: the number of an answer
abbrev pub number_of_answer : Result Answer Refusal → ℕ
number_of_answer (Ok (HandedOut n)) = 0
number_of_answer (Ok Kept) = 1
number_of_answer (Err r) = number_of r

-- 02 No. 3: the pages handed out with it
abbrev pub pages_of_answer : Result Answer Refusal → ℕ
pages_of_answer (Ok (HandedOut n)) = n
pages_of_answer (Ok Kept) = 0
pages_of_answer (Err r) = 0
