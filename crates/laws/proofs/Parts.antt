-- Laws of parts of lists: one that is lent comes back into its place, parts of parts, and parts of repeats.
use Rattle.laws.proofs.Base.{◌≡◌, sym, ap, ◌∙◌, List, [], ◌∷◌, ◌++◌, ℕ, zero, suc, ◌+◌, ◌-◌, ◌≤◌, min, sub-zero, zero-sub, suc-sub-suc, zero-min, min-zero}
use Rattle.laws.proofs.Base.{◌<◌, get_or, list_get_d_append, get_or-append-add, get_or-take, get_or-drop}
use Rattle.laws.proofs.Base.{suc-min-suc, arith, length, take, drop, replicate, length-append, length-drop, length-take-le, take-nil}
use borrow.Rule.Slice.PartMut.{put_mid, Post-is}

-- a source that is copied over a whole part stands there when the part is back
pub put_copy : (a e : ℕ) (d s y : List ℕ) → a ≤ e → e ≤ length d → y ≡ s → put_mid a (e - a) d y ≡ take a d ++ (s ++ drop e d)
put_copy a e d s y h g q = rw (q, Post-is a e d h)

-- the whole keeps its length where the part keeps its own
pub length_part : (a k : ℕ) (d y : List ℕ) → a + k ≤ length d → length y ≡ length (take k (drop a d)) → length (take a d ++ (y ++ drop k (drop a d))) ≡ length d
length_part a k d y h e =
    let f : length (take a d) ≡ a = length-take-le a d (omega arith) in
    let p : length (take k (drop a d)) ≡ k = length-take-le k (drop a d) (rw length-drop (omega arith)) in
    simp (length-append, length-drop, f, e, p) (omega arith)

-- dropping from a beginning is the beginning of what is left
pub drop_take : (a n : ℕ) (l : List ℕ) → drop a (take n l) ≡ take (n - a) (drop a l)
drop_take zero n l = rw sub-zero
drop_take (suc a) zero l = rw zero-sub
drop_take (suc a) (suc n) [] = sym (take-nil (suc n - suc a))
drop_take (suc a) (suc n) (x ∷ l) = rw suc-sub-suc (drop_take a n l)

-- the beginning of a repeat is a shorter one
pub take_replicate : (n m x : ℕ) → take n (replicate m x) ≡ replicate (min n m) x
take_replicate zero m x = rw zero-min
take_replicate (suc n) zero x = rw min-zero
take_replicate (suc n) (suc m) x = rw suc-min-suc (ap (λ (l : List ℕ). x ∷ l) (take_replicate n m x))

-- a repeat without its first elements is a shorter one
pub drop_replicate : (m n a : ℕ) → drop m (replicate n a) ≡ replicate (n - m) a
drop_replicate zero n a = rw sub-zero
drop_replicate (suc m) zero a = rw zero-sub
drop_replicate (suc m) (suc n) a = drop_replicate m n a ∙ rw suc-sub-suc

-- a part replaced: what stands in front of it, behind it and in it
module _ (a e : ℕ) (c y : List ℕ) (room : e ≤ length c) (fits : a + length y ≡ e) where
  abbrev replaced : List ℕ
  replaced = take a c ++ (y ++ drop e c)

  replaced_front : length (take a c) ≡ a
  replaced_front = length-take-le a c (omega arith)

  pub replaced_before : (j : ℕ) → j < a → get_or replaced j 0 ≡ get_or c j 0
  replaced_before j l = list_get_d_append (take a c) (y ++ drop e c) 0 j (rw replaced_front l) ∙ get_or-take a c j 0 l

  pub replaced_in : (j : ℕ) → j < length y → get_or replaced (a + j) 0 ≡ get_or y j 0
  replaced_in j l =
      ap (λ (k : ℕ). get_or replaced (k + j) 0) (sym replaced_front)
      ∙ get_or-append-add (take a c) (y ++ drop e c) j 0
      ∙ list_get_d_append y (drop e c) 0 j l

  pub replaced_after : (j : ℕ) → e ≤ j → get_or replaced j 0 ≡ get_or c j 0
  replaced_after j l =
      let here : j ≡ length (take a c) + (length y + (j - e)) = rw replaced_front (omega arith) in
      let there : e + (j - e) ≡ j = omega arith in
      ap (λ (k : ℕ). get_or replaced k 0) here
      ∙ get_or-append-add (take a c) (y ++ drop e c) (length y + (j - e)) 0
      ∙ get_or-append-add y (drop e c) (j - e) 0
      ∙ get_or-drop e c (j - e) 0
      ∙ ap (λ (k : ℕ). get_or c k 0) there
