-- The cases of a Begin that is read octet by octet.
use Rattle.laws.proofs.Base.{◌≡◌, refl, List, [], ◌∷◌, ℕ, ◌+◌, ◌*◌, ◌-◌, ◌≤◌, ◌<◌, min, add-one, arith, length, get_or, drop, drop-cons, drop_of_length-le, lt-ltb, le-ltb}
use Rattle.std.specs.Prelude.{None, Some}
use Rattle.cbwrite.specs.Inner.{typed, typed_on}

pub typed_none : (ds : List ℕ) → length ds ≡ 0 → None ≡ typed ds
unfolding typed
typed_none [] h = refl
typed_none (d ∷ ds) h = absurd (omega arith)

pub typed_some : (ds : List ℕ) → (length ds ≡ 0 → ⊥) → typed ds ≡ typed_on 0 ds
unfolding typed
typed_some [] h = absurd (h refl)
typed_some (d ∷ ds) h = refl

module _ (n : ℕ) (ds : List ℕ) (i : ℕ) where
  pub typed_end : length ds ≤ i → typed_on n (drop i ds) ≡ Some n
  unfolding typed_on
  typed_end h = rw (drop_of_length-le ds h)

  module _ (h : i < length ds) where
    pub typed_low : get_or ds i 0 < 48 → typed_on n (drop i ds) ≡ None
    unfolding typed_on
    typed_low l = rw (drop-cons ds i 0 h, lt-ltb (get_or ds i 0) 48 l)

    pub typed_high : 48 ≤ get_or ds i 0 → 57 < get_or ds i 0 → typed_on n (drop i ds) ≡ None
    unfolding typed_on
    typed_high g l = rw (drop-cons ds i 0 h, le-ltb (get_or ds i 0) 48 g, lt-ltb 57 (get_or ds i 0) l)

    pub typed_digit : 48 ≤ get_or ds i 0 → get_or ds i 0 ≤ 57 → typed_on n (drop i ds) ≡ typed_on (min (10 * n + (get_or ds i 0 - 48)) 1000) (drop (i + 1) ds)
    unfolding typed_on
    typed_digit g l = rw (add-one i, drop-cons ds i 0 h, le-ltb (get_or ds i 0) 48 g, le-ltb 57 (get_or ds i 0) l)
