-- Laws of a list with one element more at its end.
use Rattle.laws.proofs.Base.{◌≡◌, sym, ap, ◌∙◌, List, [], ◌∷◌, ◌++◌, ℕ, suc, ◌<◌, arith, length, get_or, length-append, list_get_d_append, take-append_seam, get_or-append_seam}
use Rattle.laws.proofs.Tests.{le_or_lt}

module _ {A : Type 0} where
  pub length_snoc : (xs : List A) (x : A) → length (xs ++ (x ∷ [])) ≡ suc (length xs)
  length_snoc xs x = length-append xs (x ∷ []) ∙ omega arith

  -- lists that end in an element are equal part by part
  pub snoc_injective : (xs ys : List A) (x y : A) → xs ++ (x ∷ []) ≡ ys ++ (y ∷ []) → (xs ≡ ys) × (x ≡ y)
  snoc_injective xs ys x y e =
      let n : length xs ≡ length ys = omega (arith, length_snoc xs x, length_snoc ys y, ap length e) in (
        sym (take-append_seam xs (x ∷ [])) ∙ rw (e, n) (take-append_seam ys (y ∷ [])),
        sym (get_or-append_seam xs x [] x) ∙ rw (e, n) (get_or-append_seam ys y [] x),
      )

  -- what holds of each element and its place, and of one more, holds of each with that one
  pub each_snoc : (P : ℕ → A → Type 0) (d : A) (xs : List A) (x : A)
      → ((i : ℕ) → i < length xs → P i (get_or xs i d)) → P (length xs) x → (i : ℕ) → i < length (xs ++ (x ∷ [])) → P i (get_or (xs ++ (x ∷ [])) i d)
  each_snoc P d xs x each own i h =
      le_or_lt (length xs) i
      (λ l.
      let last : i ≡ length xs = omega (arith, length_snoc xs x) in
      rw (last, get_or-append_seam xs x [] d) own)
      (λ below. rw (list_get_d_append xs (x ∷ []) d i below) (each i below))
