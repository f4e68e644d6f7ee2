-- What one computed test over a table says of each of its entries.
use Rattle.laws.proofs as own
use own.Base.{◌≡◌, Bool, true, List, [], ◌∷◌, ℕ, zero, suc, ◌+◌, ◌<◌, add-zero, zero-add, add-suc, suc-add, le_of_suc-le-suc, not-suc-le-zero, length, get_or}
use own.Tests.{both}
use Rattle.laws.specs.Table.{every, listed}

every_from : (f : ℕ → ℕ → Bool) (xs : List ℕ) (i k : ℕ) → every f i xs ≡ true → k < length xs → f (i + k) (get_or xs k 0) ≡ true
every_from f [] i k t h = absurd (not-suc-le-zero h)
every_from f (x ∷ xs) i zero t h = rw add-zero (both (f i x) (every f (suc i) xs) t).0
every_from f (x ∷ xs) i (suc k) t h = rw (add-suc, ← suc-add) (every_from f xs (suc i) k (both (f i x) (every f (suc i) xs) t).1 (le_of_suc-le-suc h))

-- a test that passes at every entry passes at entry k
pub at : (f : ℕ → ℕ → Bool) (xs : List ℕ) → every f 0 xs ≡ true → (k : ℕ) → k < length xs → f k (get_or xs k 0) ≡ true
at f xs t k h = rw zero-add at (every_from f xs 0 k t h)

listed_from : (f : ℕ → ℕ) (n i k : ℕ) → k < n → get_or (listed f i n) k 0 ≡ f (i + k)
listed_from f zero i k h = absurd (not-suc-le-zero h)
listed_from f (suc n) i zero h = rw add-zero
listed_from f (suc n) i (suc k) h = rw (add-suc, ← suc-add) (listed_from f n (suc i) k (le_of_suc-le-suc h))

-- entry k of the list of f's values is f k
pub listed_at : (f : ℕ → ℕ) (n k : ℕ) → k < n → get_or (listed f 0 n) k 0 ≡ f k
listed_at f n k h = rw zero-add at (listed_from f n 0 k h)
