-- Laws of lists that are searched: turns and ends of the loops that do it, and what is found.
use Rattle.laws.proofs.Base.{◌≡◌, refl, sym, ◌∙◌, Bool, true, false, not, ◌||◌, or-true, or-false, or_assoc, List, [], ◌∷◌, ◌++◌, map, ◌⊎◌, ⊎_elim, ℕ, zero, suc, ◌+◌, ◌≤◌, ◌<◌}
use Rattle.laws.proofs.Base.{le_of_suc-le-suc, not-suc-le-zero, add-one, arith, length, get_or, take, drop, drop_of_length-le, eqb, eqb_suc_zero, take-suc, drop-cons, eq-eqb, ne_eqb, eqb-true}
use Rattle.laws.specs.Search.{some, first_from, lookup}
use Rattle.laws.proofs.Tests.{true_or_false, either, neither}

module _ {A : Type 0} (f : A → Bool) where
  pub some_append : (xs ys : List A) → some f (xs ++ ys) ≡ (some f xs || some f ys)
  unfolding some
  some_append [] ys = refl
  some_append (x ∷ xs) ys = rw (some_append xs ys) (sym (or_assoc (f x) (some f xs) (some f ys)))

  -- one entry more, which doesn't pass
  some_passed : (d : A) (l : List A) (i : ℕ) → i < length l → f (get_or l i d) ≡ false → some f (take (i + 1) l) ≡ some f (take i l)
  unfolding some
  some_passed d l i h e = rw (add-one i, take-suc l i d h, some_append (take i l) (get_or l i d ∷ []), e) (or-false (some f (take i l)))

  -- a turn of a loop that ends at the first entry that passes
  pub some_turn : (d : A) (l : List A) (i : ℕ) → i < length l → some f (take i l) ≡ false → f (get_or l i d) ≡ false → some f (take (i + 1) l) ≡ false
  some_turn d l i h none e = some_passed d l i h e ∙ none

  -- where none passes, no entry does
  pub some_false : (d : A) (l : List A) (i : ℕ) → i < length l → some f l ≡ false → f (get_or l i d) ≡ false
  unfolding some
  some_false d [] i h e = absurd (not-suc-le-zero h)
  some_false d (x ∷ l) zero h e = (neither (f x) (some f l) e).0
  some_false d (x ∷ l) (suc i) h e = some_false d l i (le_of_suc-le-suc h) (neither (f x) (some f l) e).1

  -- the loop's end before the list's: an entry that passes is among the first n
  pub some_found : (d : A) (n : ℕ) (l : List A) (i : ℕ) → i < n → i < length l → f (get_or l i d) ≡ true → some f (take n l) ≡ true
  unfolding some
  some_found d n [] i h k e = absurd (not-suc-le-zero k)
  some_found d zero (x ∷ l) i h k e = absurd (not-suc-le-zero h)
  some_found d (suc n) (x ∷ l) zero h k e = rw e
  some_found d (suc n) (x ∷ l) (suc i) h k e = rw (some_found d n l i (le_of_suc-le-suc h) (le_of_suc-le-suc k) e) (or-true (f x))

  -- a turn of a loop that goes on to the end: an entry that passes sets the flag, and any other one leaves it
  pub some_marked : (d : A) (l : List A) (i : ℕ) (a b : Bool) → i < length l → a ≡ some f (take i l)
      → ((f (get_or l i d) ≡ true) × (b ≡ true)) ⊎ ((f (get_or l i d) ≡ false) × (b ≡ a)) → b ≡ some f (take (i + 1) l)
  some_marked d l i a b h e =
      ⊎_elim
      (λ w. w.1 ∙ sym (some_found d (i + 1) l i (omega arith) h w.0))
      (λ w. w.1 ∙ e ∙ sym (some_passed d l i h w.0))

  -- a turn and both ends of the loop that looks for the first entry that passes
  pub first_next : (d : A) (s : ℕ) (l : List A) (i : ℕ) → i < length l → f (get_or l i d) ≡ false → first_from f s (drop i l) ≡ first_from f (s + 1) (drop (i + 1) l)
  unfolding first_from
  first_next d s l i h e = rw (drop-cons l i d h, e, add-one s, add-one i)

  pub first_here : (d : A) (s : ℕ) (l : List A) (i : ℕ) → i < length l → f (get_or l i d) ≡ true → first_from f s (drop i l) ≡ s
  unfolding first_from
  first_here d s l i h e = rw (drop-cons l i d h, e)

  pub first_end : (s : ℕ) (l : List A) (i : ℕ) → length l ≤ i → first_from f s (drop i l) ≡ 0
  unfolding first_from
  first_end s l i h = rw (drop_of_length-le l h)

  -- something is found exactly where some entry passes
  pub found_some : (s : ℕ) (l : List A) → not (eqb (first_from f (suc s) l) 0) ≡ some f l
  unfolding first_from some
  found_some s [] = refl
  found_some s (x ∷ l) = true_or_false (f x) (λ e. rw (e, eqb_suc_zero)) (λ e. rw e (found_some (suc s) l))

  -- what a search found: nothing where no entry passes, or the first that does
  pub data Found (d : A) (s : ℕ) (l : List A) (r : ℕ) : Type 0 where
    none_passes : r ≡ 0 → ((i : ℕ) → i < length l → f (get_or l i d) ≡ false) → Found d s l r
    first_passes : (i : ℕ) → r ≡ s + i → i < length l → f (get_or l i d) ≡ true → ((j : ℕ) → j < i → f (get_or l j d) ≡ false) → Found d s l r

  pub searched : (d : A) (s : ℕ) (l : List A) → Found d s l (first_from f s l)
  unfolding first_from
  searched d s [] = none_passes refl (λ i h. absurd (not-suc-le-zero h))
  searched d s (x ∷ l) =
      true_or_false (f x)
      (λ e. rw e (first_passes zero (omega arith) (omega arith) e (λ j h. absurd (not-suc-le-zero h))))
      (λ e. rw e (later e (searched d (suc s) l)))
    where
      each : f x ≡ false → (n : ℕ) → ((i : ℕ) → i < n → f (get_or l i d) ≡ false) → (i : ℕ) → i < suc n → f (get_or (x ∷ l) i d) ≡ false
      each own n rest zero h = own
      each own n rest (suc i) h = rest i (le_of_suc-le-suc h)

      later : f x ≡ false → {r : ℕ} → Found d (suc s) l r → Found d s (x ∷ l) r
      later own (none_passes e rest) = none_passes e (each own (length l) rest)
      later own (first_passes i e h p rest) = first_passes (suc i) (omega arith) (omega arith) p (each own i rest)

-- an entry that passes one test passes another that follows from it
pub some_implies : {A : Type 0} (f g : A → Bool) → ((x : A) → f x ≡ true → g x ≡ true) → (l : List A) → some f l ≡ true → some g l ≡ true
unfolding some
some_implies f g h [] e = e
some_implies f g h (x ∷ l) e =
    ⊎_elim (λ a. rw (h x a)) (λ a. rw (some_implies f g h l a) (or-true (g x))) (either (f x) (some f l) e)

-- two tests that agree find the same
module _ {A : Type 0} (f g : A → Bool) (agree : (x : A) → f x ≡ g x) where
  pub some_agree : (l : List A) → some f l ≡ some g l
  unfolding some
  some_agree [] = refl
  some_agree (x ∷ l) = rw (agree x, some_agree l)

  pub first_agree : (s : ℕ) (l : List A) → first_from f s l ≡ first_from g s l
  unfolding first_from
  first_agree s [] = refl
  first_agree s (x ∷ l) = rw (agree x, first_agree (suc s) l)

-- a turn and both ends of the loop that looks for an entry's value by its key
module _ {A : Type 0} (key value : A → ℕ) (k y : ℕ) where
  pub lookup_next : (d : A) (l : List A) (i : ℕ) → i < length l → (key (get_or l i d) ≡ k → ⊥) → lookup key value (drop i l) k y ≡ lookup key value (drop (i + 1) l) k y
  unfolding lookup
  lookup_next d l i h ne = rw (drop-cons l i d h, ne_eqb _ _ ne, add-one i)

  pub lookup_here : (d : A) (l : List A) (i : ℕ) → i < length l → key (get_or l i d) ≡ k → lookup key value (drop i l) k y ≡ value (get_or l i d)
  unfolding lookup
  lookup_here d l i h e = rw (drop-cons l i d h, eq-eqb _ _ e)

  pub lookup_end : (l : List A) (i : ℕ) → length l ≤ i → lookup key value (drop i l) k y ≡ y
  unfolding lookup
  lookup_end l i h = rw (drop_of_length-le l h)

-- entries that are made of others are found as these are
pub lookup_map : {A B : Type 0} (f : B → A) (key value : A → ℕ) (l : List B) (k y : ℕ) → lookup key value (map f l) k y ≡ lookup (λ (x : B). key (f x)) (λ (x : B). value (f x)) l k y
unfolding lookup
lookup_map f key value [] k y = refl
lookup_map f key value (x ∷ l) k y = rw (lookup_map f key value l k y)

-- what looking up ends with: the other number, or the value of an entry that has the key
pub data Looked {A : Type 0} (key value : A → ℕ) (d : A) (l : List A) (k y r : ℕ) : Type 0 where
  not_listed : r ≡ y → Looked key value d l k y r
  listed_at : (i : ℕ) → i < length l → key (get_or l i d) ≡ k → r ≡ value (get_or l i d) → Looked key value d l k y r

pub looked : {A : Type 0} (key value : A → ℕ) (d : A) (l : List A) (k y : ℕ) → Looked key value d l k y (lookup key value l k y)
unfolding lookup
looked key value d [] k y = not_listed refl
looked key value d (x ∷ l) k y =
    true_or_false (eqb (key x) k)
    (λ e. rw e (listed_at zero (omega arith) (eqb-true _ _ e) refl))
    (λ e. rw e (later (looked key value d l k y)))
  where
    later : {r : ℕ} → Looked key value d l k y r → Looked key value d (x ∷ l) k y r
    later (not_listed q) = not_listed q
    later (listed_at i h e q) = listed_at (suc i) (omega arith) e q
