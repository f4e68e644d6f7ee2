-- Lists of which each entry has a property.
use Rattle.laws.proofs.Base.{List, [], ◌∷◌, ◌++◌}

abbrev pub All : {A : Type 0} → (A → Type 0) → List A → Type 0
All P [] = Unit {0}
All P (x ∷ xs) = P x × All P xs

module _ {A : Type 0} (P : A → Type 0) where
  pub all_snoc : (xs : List A) (x : A) → All P xs → P x → All P (xs ++ (x ∷ []))
  all_snoc [] x h p = (p, tt)
  all_snoc (y ∷ xs) x h p = (h.0, all_snoc xs x h.1 p)

  pub all_append : (xs ys : List A) → All P (xs ++ ys) → All P xs × All P ys
  all_append [] ys h = (tt, h)
  all_append (x ∷ xs) ys h = let r = all_append xs ys h.1 in ((h.0, r.0), r.1)

  -- what follows of each from another property
  pub all_weaker : (Q : A → Type 0) → ((x : A) → Q x → P x) → (xs : List A) → All Q xs → All P xs
  all_weaker Q f [] h = tt
  all_weaker Q f (x ∷ xs) h = (f x h.0, all_weaker Q f xs h.1)
