-- Laws of a text's septets: which they are, how many, and what they are read as.
use Rattle.laws.proofs.Base.{◌≡◌, refl, sym, ap, ◌∙◌, true, false, true≢false, ◌&&◌, List, [], ◌∷◌, ◌++◌, append_assoc, map, ⊎_elim, ℕ, zero, suc, ◌-◌, ◌<◌, ◌≤◌, arith, eqb, lit<, lit≤, length, replicate, length-append, length-replicate, ne_eqb, eq-eqb}
use Rattle.laws.specs.Radix.{Below}
use Rattle.laws.specs.Search.{some}
use Rattle.laws.proofs.Radix.{below_nil, below_cons, below_append, below_replicate}
use Rattle.laws.proofs.Tests.{neither, true_or_false}
use Rattle.alphabet.specs.Paper.{code_point, septet_of, no_septet, escape, pair_point, pair_septet}
use Rattle.alphabet.proofs.Laws.{Writes, found, WritesPair, found_pair, reads_cr}
use Rattle.text.specs.Paper.{cr, septets_of, unpadded, septets, foreign, Character, decoded, shown}
use Rattle.text.proofs.Trim.{plain_cr, trim_length}

-- which septets a character has
pub data Spelled (c : ℕ) : Type 0 where
  by_own : Writes c (septet_of c) → septets_of c ≡ septet_of c ∷ [] → Spelled c
  by_pair : WritesPair c (pair_septet c) → septets_of c ≡ escape ∷ pair_septet c ∷ [] → Spelled c
  by_none : septet_of c ≡ no_septet → pair_septet c ≡ no_septet → septets_of c ≡ [] → Spelled c

-- a septet is not the mark
no_mark : (s : ℕ) → s < 128 → eqb s no_septet ≡ false
no_mark s h = ne_eqb s no_septet (λ e. omega (arith, h, e))

pub spelled : (c : ℕ) → Spelled c
unfolding septets_of
spelled c = ⊎_elim (λ none. ⊎_elim (absent none) (paired none) (found_pair c)) own (found c)
  where
    own : Writes c (septet_of c) → Spelled c
    own w = by_own w (simp (no_mark (septet_of c) w.septet))

    paired : septet_of c ≡ no_septet → WritesPair c (pair_septet c) → Spelled c
    paired e w = by_pair w (simp (e, no_mark (pair_septet c) w.septet))

    absent : septet_of c ≡ no_septet → pair_septet c ≡ no_septet → Spelled c
    absent e n = by_none e n (simp (e, n))

-- the first of some characters that are all in the tables
module _ (c : ℕ) (t : List ℕ) (h : foreign (c ∷ t) ≡ false) where
  pub known_rest : foreign t ≡ false
  unfolding foreign
  known_rest = (neither (eqb (septet_of c) no_septet && eqb (pair_septet c) no_septet) (foreign t) h).1

  pub known_first : (septet_of c ≡ no_septet) → (pair_septet c ≡ no_septet) → ⊥
  unfolding foreign
  known_first e n =
      let m = (neither (eqb (septet_of c) no_septet && eqb (pair_septet c) no_septet) (foreign t) h).0 in
      true≢false (sym (simp (eq-eqb (septet_of c) no_septet e, eq-eqb (pair_septet c) no_septet n)) ∙ m)

pub unpadded_append : (s t : List ℕ) → unpadded (s ++ t) ≡ unpadded s ++ unpadded t
unfolding unpadded
unpadded_append [] t = refl
unpadded_append (c ∷ s) t = ap (λ (l : List ℕ). septets_of c ++ l) (unpadded_append s t) ∙ sym (append_assoc (septets_of c) (unpadded s) (unpadded t))

pub septets_count : (t : List ℕ) → length (unpadded t) ≤ 93 → length (septets t) ≡ 93
unfolding septets
septets_count t h = simp (length-append, length-replicate) (omega arith)

below_of : (c : ℕ) → Spelled c → Below 128 (septets_of c)
below_of c (by_own w e) = rw e (below_cons 128 (septet_of c) [] w.septet (below_nil 128 (lit< tt)))
below_of c (by_pair w e) = rw e (below_cons 128 escape (pair_septet c ∷ []) (lit< tt) (below_cons 128 (pair_septet c) [] w.septet (below_nil 128 (lit< tt))))
below_of c (by_none _ _ e) = rw e (below_nil 128 (lit< tt))

unpadded_below : (t : List ℕ) → Below 128 (unpadded t)
unfolding unpadded
unpadded_below [] = below_nil 128 (lit< tt)
unpadded_below (c ∷ t) = below_append 128 (septets_of c) (unpadded t) (below_of c (spelled c)) (unpadded_below t)

pub septets_below : (t : List ℕ) → Below 128 (septets t)
unfolding septets
septets_below t =
    below_append 128 (unpadded t) (replicate (93 - length (unpadded t)) cr) (unpadded_below t) (below_replicate 128 (93 - length (unpadded t)) cr (lit< tt))

-- a character as it is read where it was written: as a pair if it has no septet of its own
abbrev pub read_as : ℕ → Character
read_as c = record { point = c; escaped = eqb (septet_of c) no_septet }

module _ (r : List ℕ) where
  -- a septet other than 1B is read as its character
  decoded_own : (s : ℕ) → (s ≡ escape → ⊥) → decoded false (s ∷ r) ≡ record { point = code_point s; escaped = false } ∷ decoded false r
  unfolding decoded
  decoded_own s ne = rw (ne_eqb s escape ne)

  -- 1B and the septet after it are one character
  pub decoded_pair : (s : ℕ) → decoded false (escape ∷ s ∷ r) ≡ record { point = pair_point s; escaped = true } ∷ decoded false r
  unfolding decoded
  decoded_pair s = refl

  decoded_character : (c : ℕ) → ((septet_of c ≡ no_septet) → (pair_septet c ≡ no_septet) → ⊥) → Spelled c → decoded false (septets_of c ++ r) ≡ read_as c ∷ decoded false r
  decoded_character c known (by_own w e) =
      rw (e, no_mark (septet_of c) w.septet) (decoded_own (septet_of c) w.spares ∙ rw w.reads)
  decoded_character c known (by_pair w e) = rw (e, w.apart) (decoded_pair (pair_septet c) ∙ rw w.reads)
  decoded_character c known (by_none e n _) = absurd (known e n)

-- what is written for a text is read as its characters
pub decoded_text : (t r : List ℕ) → foreign t ≡ false → decoded false (unpadded t ++ r) ≡ map read_as t ++ decoded false r
unfolding unpadded
decoded_text [] r h = refl
decoded_text (c ∷ t) r h =
    ap (decoded false) (append_assoc (septets_of c) (unpadded t) r)
    ∙ decoded_character (unpadded t ++ r) c (known_first c t h) (spelled c)
    ∙ ap (◌∷◌ (read_as c)) (decoded_text t r (known_rest c t h))

-- CRs that are not escaped are read as CRs
pub decoded_crs : (j : ℕ) → decoded false (replicate j cr) ≡ replicate j plain_cr
unfolding decoded
decoded_crs zero = refl
decoded_crs (suc j) = decoded_own (replicate j cr) cr (λ e. omega (arith, e)) ∙ rw (reads_cr, decoded_crs j)

-- no more characters are read than there are septets
decoded_few : (s : List ℕ) → (length (decoded false s) ≤ length s) × (length (decoded true s) ≤ suc (length s))
unfolding decoded
decoded_few [] = (lit≤ tt, lit≤ tt)
decoded_few (x ∷ s) =
    let w = decoded_few s in
    (true_or_false (eqb x escape) (λ e. rw e (omega (arith, w.1))) (λ e. rw e (omega (arith, w.0))), omega (arith, w.0))

pub shown_few : (s : List ℕ) → length (shown s) ≤ length s
shown_few s = omega (arith, trim_length (decoded false s), (decoded_few s).0)

-- where there is no 1B, each septet is a character
pub decoded_plain : (s : List ℕ) → some (λ (x : ℕ). eqb x escape) s ≡ false → decoded false s ≡ map (λ (x : ℕ). record { point = code_point x; escaped = false }) s
unfolding decoded some
decoded_plain [] h = refl
decoded_plain (x ∷ s) h =
    let n = neither (eqb x escape) (some (λ (y : ℕ). eqb y escape) s) h in
    rw n.0 (ap (◌∷◌ (record { point = code_point x; escaped = false })) (decoded_plain s n.1))
