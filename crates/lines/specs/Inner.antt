-- What a function that puts octets behind a text promises where they fit.
use Rattle.std.specs.Prelude.{◌≡◌, List, ◌++◌, ℕ, ◌+◌, ◌≤◌, take}

-- the text t' up to r is t up to n and then s, which is no longer than most
pub record Puts (s : List ℕ) (most n : ℕ) (t t' : List ℕ) (r : ℕ) : Type 0 where
  pub text : take r t' ≡ take n t ++ s
  pub onward : n ≤ r
  pub room : r ≤ n + most
