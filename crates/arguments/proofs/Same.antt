-- The test of two slices for equality is `same_text`.
use Rattle.laws.proofs.Base.{◌≡◌, refl, ap, ◌&&◌, Bool, List, [], ◌∷◌, ℕ, eqb}
use lib.Pointwise.{pointwise}
use Rattle.arguments.specs.Paper.{same_text}

pub pointwise_same : (xs ys : List ℕ) → pointwise eqb xs ys ≡ same_text xs ys
unfolding same_text
pointwise_same [] [] = refl
pointwise_same [] (y ∷ ys) = refl
pointwise_same (x ∷ xs) [] = refl
pointwise_same (x ∷ xs) (y ∷ ys) = ap (λ (b : Bool). eqb x y && b) (pointwise_same xs ys)
