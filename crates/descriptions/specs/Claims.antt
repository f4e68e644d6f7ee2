-- What is claimed of the reader of descriptions beside its contracts.
use Rattle.std.specs.Prelude.{◌≡◌, List, ℕ, min}
use Rattle.descriptions.specs.Paper.{reached, ordered}

-- 01 Schedule message: opening and calls reach each place up to the number of slots given and stay there: a place past it they don't reach
abbrev pub ReachedLeast : Type 0
ReachedLeast = (m : List ℕ) (received k : ℕ) → reached m received k ≡ min k (ordered m received).count
