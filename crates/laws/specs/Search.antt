-- Lists that are searched by a test.
use Rattle.std.specs.Prelude.{ℕ, suc, Bool, false, cond, ◌||◌, List, [], ◌∷◌, eqb}

-- some entry passes the test f
unfoldable pub some : {A : Type 0} → (A → Bool) → List A → Bool
some f [] = false
some f (x ∷ xs) = f x || some f xs

-- the place of the first entry that passes the test f, the first place being s; 0 where none passes
unfoldable pub first_from : {A : Type 0} → (A → Bool) → ℕ → List A → ℕ
first_from f s [] = 0
first_from f s (x ∷ xs) = cond (f x) s (first_from f (suc s) xs)

-- the value of the first entry whose key is k; y where no entry has it
unfoldable pub lookup : {A : Type 0} → (A → ℕ) → (A → ℕ) → List A → ℕ → ℕ → ℕ
lookup key value [] k y = y
lookup key value (x ∷ xs) k y = cond (eqb (key x) k) (value x) (lookup key value xs k y)
