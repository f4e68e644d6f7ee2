-- Numbers below a bound: whether one passes a test, how many do, which, and the lowest of them; what a function gives at each.
use Rattle.std.specs.Prelude.{Bool, false, cond, ◌||◌, List, [], ◌∷◌, ◌++◌, ℕ, zero, suc, ◌+◌}

-- some number below n passes the test
unfoldable pub some_below : (ℕ → Bool) → ℕ → Bool
some_below p zero = false
some_below p (suc n) = some_below p n || p n

-- the lowest number below n that passes the test, counted from 1; 0 where none passes
unfoldable pub lowest : (ℕ → Bool) → ℕ → ℕ
lowest p zero = 0
lowest p (suc n) = cond (some_below p n) (lowest p n) (cond (p n) (suc n) 0)

-- how many numbers below n pass the test
unfoldable pub count : (ℕ → Bool) → ℕ → ℕ
count p zero = 0
count p (suc n) = count p n + cond (p n) 1 0

-- the numbers below n that pass the test, in their order
unfoldable pub picked : (ℕ → Bool) → ℕ → List ℕ
picked p zero = []
picked p (suc n) = picked p n ++ cond (p n) (n ∷ []) []

-- what a function gives at each number below n, in their order
unfoldable pub each : {A : Type 0} → (ℕ → A) → ℕ → List A
each f zero = []
each f (suc n) = each f n ++ (f n ∷ [])
