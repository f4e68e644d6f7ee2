-- Laws of a function along lists: one that has a way back, and the first entries.
use Rattle.laws.proofs.Base.{◌≡◌, refl, sym, ap, ◌∙◌, List, [], ◌∷◌, map, ℕ, zero, suc, take}

module _ {A B : Type 0} (f : A → B) (g : B → A) (h : (x : A) → g (f x) ≡ x) where
  -- what brings each element back brings the list back
  map_back : (xs : List A) → map g (map f xs) ≡ xs
  map_back [] = refl
  map_back (x ∷ xs) = λ i. h x i ∷ map_back xs i

  pub map_injective : (xs ys : List A) → map f xs ≡ map f ys → xs ≡ ys
  map_injective xs ys e = sym (map_back xs) ∙ ap (map g) e ∙ map_back ys

pub take_map : {A B : Type 0} (f : A → B) (n : ℕ) (xs : List A) → take n (map f xs) ≡ map f (take n xs)
take_map f zero xs = refl
take_map f (suc n) [] = refl
take_map f (suc n) (x ∷ xs) = ap (◌∷◌ (f x)) (take_map f n xs)
