-- Begin as it is typed.
use Rattle.std.specs.Prelude.{cond, List, [], ◌∷◌, ℕ, ◌+◌, ◌*◌, ◌-◌, Option, None, Some, min, ltb}

-- DECISIONS, `cbwrite`: decimal digits behind a number n, read as 1000 where they tell more; another octet is none
unfoldable pub typed_on : ℕ → List ℕ → Option ℕ
typed_on n [] = Some n
typed_on n (d ∷ ds) = cond (ltb d 48) None (cond (ltb 57 d) None (typed_on (min (10 * n + (d - 48)) 1000) ds))

-- an argument of no octets tells no number
unfoldable pub typed : List ℕ → Option ℕ
typed [] = None
typed (d ∷ ds) = typed_on 0 (d ∷ ds)
