-- What the inner functions give, in the paper's terms.
use Rattle.std.specs.Prelude.{ℕ, ⊤, List, take, Result, Ok, Err}
use Rattle.laws.specs.Ruled.{ruled}
use Rattle.refusals.specs.Number.{number_of}
use Rattle.refusals.specs.declared.Refusal.{Refusal}
use Rattle.plan_read.specs.Paper.{faults}

-- the number of a file before its entries are looked at: the tests but the last
unfoldable pub front_number : List ℕ → ℕ
front_number f = ruled (λ n. n) (take 4 (faults f)) 0

-- 0, or the refusal's number
abbrev pub number_in : Result ⊤ Refusal → ℕ
number_in (Ok x) = 0
number_in (Err r) = number_of r
