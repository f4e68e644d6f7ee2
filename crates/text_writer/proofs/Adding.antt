-- Laws of septets that are packed one after another.
use Rattle.laws.proofs.Base.{◌≡◌, refl, sym, ap, subst, ◌∙◌, List, [], ◌∷◌, ◌++◌, append_assoc, append-nil, ℕ, zero, suc, ◌+◌, ◌*◌, ◌/◌, ◌%◌, ◌^◌, ◌-◌, ◌<◌, ◌≤◌, add-zero, mul_comm, mul_assoc, mul-zero}
use Rattle.laws.proofs.Base.{add-mul-div_left, div-lt_iff_lt-mul, div-add-mod, lt_of_lt_of_le, one-le-pow, pos_of_ne-zero, pow-suc, pow-le-pow_right}
use Rattle.laws.proofs.Base.{add-one, arith, lit<, length, take, set, replicate, length-append, length-set, take-length, take-suc-set, eqb, eqb-true, eqb-false}
use lib.Pow.{pow-add}
use Rattle.laws.specs.Radix.{Below, value, digits}
use Rattle.laws.proofs.Radix.{below_append, below_cons, below_nil, value_lt, value_append, digits_low, digits_more, div_more, power_bits}
use Rattle.laws.proofs.Tests.{true_or_false}
use Rattle.text.specs.Paper.{cr, unpadded, septets, packed}
use Rattle.text.proofs.Septets.{septets_count, septets_below}
use Rattle.text_writer.specs as defs
use defs.Inner.{Added, Addable, AddableAll, Filled, added, added_all, unfilled, word}
use defs.declared.filling.Filling.{Filling}

-- n septets have the bits of 7n/8 octets and 7n%8 more
septets_fill : (n : ℕ) → 128 ^ n ≡ 256 ^ (7 * n / 8) * 2 ^ (7 * n % 8)
septets_fill n =
    power_bits 7 n
    ∙ ap (λ (k : ℕ). 2 ^ k) (sym (div-add-mod (7 * n) 8))
    ∙ pow-add 2 (8 * (7 * n / 8)) (7 * n % 8)
    ∙ ap (λ (k : ℕ). k * 2 ^ (7 * n % 8)) (sym (power_bits 8 (7 * n / 8)))

-- what waits for a full octet is below what the next septet counts in it
held_below : (xs : List ℕ) → Below 128 xs → value 128 xs / 256 ^ (7 * length xs / 8) < 2 ^ (7 * length xs % 8)
held_below xs low =
    let a : ℕ = 7 * length xs / 8 in
    (div-lt_iff_lt-mul (one-le-pow a 256 (lit< tt))).1
    (rw (mul_comm (2 ^ (7 * length xs % 8)) (256 ^ a), ← septets_fill (length xs)) (value_lt 128 xs low))

weight_most : (n : ℕ) → 2 ^ (7 * n % 8) ≤ 128
weight_most n = pow-le-pow_right {n = 2} (lit< tt) {j = 7} (omega arith)

filled_addable : (xs : List ℕ) (f : Filling) (o : List ℕ) (s : ℕ) → Filled xs f o → length xs ≤ 93 → s < 128 → Addable f s o
filled_addable xs f o s g h k =
    record {
      septet = k;
      held = rw g.held (lt_of_lt_of_le (held_below xs g.below) (weight_most (length xs)));
      weight = rw g.weight (weight_most (length xs));
      place = omega (arith, g.place, g.room);
    }

-- one septet more: its number counts by the octets that are written and by its weight in the next one
module _ (xs : List ℕ) (s : ℕ) where
  abbrev a : ℕ
  a = 7 * length xs / 8

  abbrev e : ℕ
  e = 7 * length xs % 8

  more : value 128 (xs ++ (s ∷ [])) ≡ value 128 xs + 256 ^ a * (2 ^ e * s)
  unfolding value
  more =
      value_append 128 xs (s ∷ [])
      ∙ ap (λ (n : ℕ). value 128 xs + n * (s + 0)) (septets_fill (length xs))
      ∙ rw (mul_assoc (256 ^ a) (2 ^ e) (s + 0), add-zero s)

  -- the octets written before stay
  before : digits 256 a (value 128 (xs ++ (s ∷ []))) ≡ digits 256 a (value 128 xs)
  before = rw more (digits_low 256 (lit< tt) a (value 128 xs) (2 ^ e * s))

  -- what the next octet has then
  next : value 128 (xs ++ (s ∷ [])) / 256 ^ a ≡ value 128 xs / 256 ^ a + 2 ^ e * s
  next = rw more (add-mul-div_left (value 128 xs) (2 ^ e * s) (one-le-pow a 256 (lit< tt)))

-- septets ys that are a octets and e bits
settled : (ys : List ℕ) (f : Filling) (o : List ℕ) (a e : ℕ) → 7 * length ys / 8 ≡ a → 7 * length ys % 8 ≡ e → Below 128 ys
    → f.at ≡ a → f.weight ≡ 2 ^ e → f.held ≡ value 128 ys / 256 ^ a → take a o ≡ digits 256 a (value 128 ys) → length o ≡ 82
    → Filled ys f o
settled ys f o a e p q low place weight held written room =
    record {
      below = low;
      place = place ∙ sym p;
      weight = weight ∙ ap (λ (k : ℕ). 2 ^ k) (sym q);
      held = held ∙ ap (λ (k : ℕ). value 128 ys / 256 ^ k) (sym p);
      written = rw p written;
      room = room;
    }

-- a weight of 1 is that of an empty octet
weight_one : (e : ℕ) → 2 ^ e ≡ 1 → e ≡ 0
weight_one zero h = refl
weight_one (suc e) h = absurd (omega (arith, pow-suc 2 e, one-le-pow e 2 (lit< tt)))

module _ (xs : List ℕ) (f : Filling) (o : List ℕ) (s : ℕ) (g : Filled xs f o) (h : length xs ≤ 93) (k : s < 128) where
  abbrev ys : List ℕ
  ys = xs ++ (s ∷ [])

  longer : length ys ≡ length xs + 1
  longer = length-append xs (s ∷ [])

  low : Below 128 ys
  low = below_append 128 xs (s ∷ []) g.below (below_cons 128 s [] k (below_nil 128 (lit< tt)))

  -- an empty octet takes the septet in
  added_first : f.weight ≡ 1 → Filled ys (record { held = s; weight = 128; at = f.at }) o
  added_first w =
      let z : 7 * length xs % 8 ≡ 0 = weight_one (7 * length xs % 8) (sym g.weight ∙ w) in
      let none : value 128 xs / 256 ^ (7 * length xs / 8) < 1 = rw z at (held_below xs g.below) in
      let q : value 128 ys / 256 ^ (7 * length xs / 8) ≡ value 128 xs / 256 ^ (7 * length xs / 8) + 1 * s = rw z at (next xs s) in
      let same : 7 * length ys / 8 ≡ 7 * length xs / 8 = omega (arith, longer, z) in
      settled ys (record { held = s; weight = 128; at = f.at }) o (7 * length xs / 8) 7
      same (omega (arith, longer, z, same)) low g.place refl
      (omega (arith, none, q))
      (g.written ∙ sym (before xs s)) g.room

  -- any other one is full then
  word_next : word f s ≡ value 128 ys / 256 ^ (7 * length xs / 8)
  word_next = rw (g.held, g.weight, mul_comm s (2 ^ (7 * length xs % 8))) (sym (next xs s))

  added_later : (f.weight ≡ 1 → ⊥)
      → Filled ys (record { held = word f s / 256; weight = f.weight / 2; at = f.at + 1 }) (set o f.at (word f s % 256))
  added_later ne =
      let n : ℕ = length xs in
      let some : 0 < 7 * n % 8 = pos_of_ne-zero (λ z. ne (g.weight ∙ ap (λ (k : ℕ). 2 ^ k) z)) in
      let back : suc (7 * n % 8 - 1) ≡ 7 * n % 8 = omega arith in
      let half : 2 ^ (7 * n % 8) ≡ 2 ^ (7 * n % 8 - 1) * 2 = ap (λ (k : ℕ). 2 ^ k) (sym back) ∙ pow-suc 2 (7 * n % 8 - 1) in
      let full : 7 * length ys / 8 ≡ 7 * n / 8 + 1 = omega (arith, longer) in
      settled ys _ (set o f.at (word f s % 256)) (7 * n / 8 + 1) (7 * n % 8 - 1)
      full (omega (arith, longer, full)) low (ap (λ (k : ℕ). k + 1) g.place)
      (omega (arith, g.weight, half))
      (ap (λ (v : ℕ). v / 256) word_next ∙ div_more 256 (7 * n / 8) (value 128 ys))
      (rw (g.place, word_next, add-one (7 * n / 8), take-suc-set o (7 * n / 8) _ (omega (arith, g.room)), g.written, ← before xs s)
      (sym (rw (add-one (7 * n / 8)) at (digits_more 256 (7 * n / 8) (value 128 ys)))))
      (length-set o f.at _ ∙ g.room)

  filled_added : Filled ys (added f s o).filling (added f s o).octets
  unfolding added
  filled_added =
      true_or_false (eqb f.weight 1)
      (λ t. rw t (added_first (eqb-true f.weight 1 t)))
      (λ t. rw t (added_later (eqb-false f.weight 1 t)))

-- septets that are added one after the other
filled_all : (ss xs : List ℕ) (f : Filling) (o : List ℕ) → Filled xs f o → length xs + length ss ≤ 94 → Below 128 ss
    → AddableAll ss f o × Filled (xs ++ ss) (added_all ss f o).filling (added_all ss f o).octets
unfolding AddableAll added_all
filled_all [] xs f o g h low = (tt, rw (append-nil xs) g)
filled_all (s ∷ ss) xs f o g h low =
    let k : length xs ≤ 93 = omega arith in
    let w : AddableAll ss (added f s o).filling (added f s o).octets × Filled ((xs ++ (s ∷ [])) ++ ss) (added_all (s ∷ ss) f o).filling (added_all (s ∷ ss) f o).octets =
    filled_all ss (xs ++ (s ∷ [])) (added f s o).filling (added f s o).octets (filled_added xs f o s g k (low 0)) (omega (arith, length-append xs (s ∷ []))) (λ i. low (suc i)) in
    ((filled_addable xs f o s g k (low 0), w.0), rw (append_assoc xs (s ∷ []) ss) at w.1)

-- some septets and then others
added_append : (a b : List ℕ) (f : Filling) (o : List ℕ) → added_all (a ++ b) f o ≡ added_all b (added_all a f o).filling (added_all a f o).octets
unfolding added_all
added_append [] b f o = refl
added_append (s ∷ a) b f o = added_append a b (added f s o).filling (added f s o).octets

addable_append : (a b : List ℕ) (f : Filling) (o : List ℕ) → AddableAll (a ++ b) f o
    → AddableAll a f o × AddableAll b (added_all a f o).filling (added_all a f o).octets
unfolding AddableAll added_all
addable_append [] b f o h = (tt, h)
addable_append (s ∷ a) b f o h =
    let w = addable_append a b (added f s o).filling (added f s o).octets h.1 in
    ((h.0, w.0), w.1)

-- what some septets leave takes the rest
module _ (a rest : List ℕ) (f : Filling) (o : List ℕ) (g : Filling) (p : List ℕ) (e : record { filling = g; octets = p } ≡ added_all a f o) where
  pub rest_addable : AddableAll (a ++ rest) f o → AddableAll rest g p
  rest_addable h = subst (λ (x : Added). AddableAll rest x.filling x.octets) (sym e) (addable_append a rest f o h).1

  pub rest_added : added_all (a ++ rest) f o ≡ added_all rest g p
  rest_added = added_append a rest f o ∙ ap (λ (x : Added). added_all rest x.filling x.octets) (sym e)

pub front_addable : (a rest : List ℕ) (f : Filling) (o : List ℕ) → AddableAll (a ++ rest) f o → AddableAll a f o
front_addable a rest f o h = (addable_append a rest f o h).0

-- the first of some septets
pub first_addable : (ss : List ℕ) (f : Filling) (o : List ℕ) (s : ℕ) (r : List ℕ) → ss ≡ s ∷ r → AddableAll ss f o → Addable f s o
unfolding AddableAll
first_addable ss f o s r e h = (rw e at h).0

-- one septet, and two
module _ (ss : List ℕ) (f : Filling) (o : List ℕ) (s : ℕ) where
  pub one_added : ss ≡ s ∷ [] → {x : Added} → x ≡ added f s o → x ≡ added_all ss f o
  unfolding added_all
  one_added e q = rw e q

  module _ (z : ℕ) (e : ss ≡ s ∷ z ∷ []) (g : Filling) (p : List ℕ) (q : record { filling = g; octets = p } ≡ added f s o) where
    pub next_addable : AddableAll ss f o → Addable g z p
    unfolding AddableAll
    next_addable h = subst (λ (x : Added). Addable x.filling z x.octets) (sym q) (rw e at h).1.0

    pub two_added : {x : Added} → x ≡ added g z p → x ≡ added_all ss f o
    unfolding added_all
    two_added d = rw e (d ∙ ap (λ (x : Added). added x.filling z x.octets) q)

-- before the first septet
filled_none : (o : List ℕ) → length o ≡ 82 → Filled [] unfilled o
unfolding value digits
filled_none o h =
    record { below = below_nil 128 (lit< tt); place = refl; weight = refl; held = refl; written = refl; room = h }

-- after 93 septets and the zero bits behind them every octet is written
filled_whole : (xs : List ℕ) (f : Filling) (o : List ℕ) → length xs ≡ 93 → Filled (xs ++ (0 ∷ [])) f o → o ≡ digits 256 82 (value 128 xs)
unfolding value
filled_whole xs f o h g =
    let n : length (xs ++ (0 ∷ [])) ≡ 94 = length-append xs (0 ∷ []) ∙ ap (λ (k : ℕ). k + 1) h in
    let all : take 82 o ≡ o = ap (λ (k : ℕ). take k o) (sym g.room) ∙ take-length o in
    let same : value 128 (xs ++ (0 ∷ [])) ≡ value 128 xs = value_append 128 xs (0 ∷ []) ∙ rw (mul-zero, add-zero) in
    sym all ∙ rw n at g.written ∙ ap (digits 256 82) same

-- a text's septets, its padding and the zero bits behind them fill 82 octets
module _ (t o : List ℕ) (short : length (unpadded t) ≤ 93) (room : length o ≡ 82) where
  abbrev pad : List ℕ
  pad = replicate (93 - length (unpadded t)) cr

  all_filled : AddableAll (septets t ++ (0 ∷ [])) unfilled o
      × Filled (septets t ++ (0 ∷ [])) (added_all (septets t ++ (0 ∷ [])) unfilled o).filling (added_all (septets t ++ (0 ∷ [])) unfilled o).octets
  all_filled =
      filled_all (septets t ++ (0 ∷ [])) [] unfilled o (filled_none o room)
      (omega (arith, length-append (septets t) (0 ∷ []), septets_count t short))
      (below_append 128 (septets t) (0 ∷ []) (septets_below t) (below_cons 128 0 [] (lit< tt) (below_nil 128 (lit< tt))))

  all_addable : AddableAll (unpadded t ++ (pad ++ (0 ∷ []))) unfilled o
  unfolding septets
  all_addable = rw (append_assoc (unpadded t) pad (0 ∷ [])) at all_filled.0

  pub text_addable : AddableAll (unpadded t) unfilled o
  text_addable = front_addable (unpadded t) (pad ++ (0 ∷ [])) unfilled o all_addable

  -- what the text leaves takes the padding
  module _ (f : Filling) (p : List ℕ) (e : record { filling = f; octets = p } ≡ added_all (unpadded t) unfilled o) where
    behind : AddableAll (pad ++ (0 ∷ [])) f p
    behind = rest_addable (unpadded t) (pad ++ (0 ∷ [])) unfilled o f p e all_addable

    pub padding_addable : AddableAll pad f p
    padding_addable = front_addable pad (0 ∷ []) f p behind

    -- what the padding leaves takes the zero bits
    module _ (g : Filling) (q : List ℕ) (d : record { filling = g; octets = q } ≡ added_all pad f p) where
      pub zero_addable : Addable g 0 q
      zero_addable = first_addable (0 ∷ []) g q 0 [] refl (rest_addable pad (0 ∷ []) f p g q d behind)

      pub text_packed : (h : Filling) (r : List ℕ) → record { filling = h; octets = r } ≡ added g 0 q → r ≡ packed (septets t)
      unfolding septets packed
      text_packed h r c =
          let all : added_all (septets t ++ (0 ∷ [])) unfilled o ≡ record { filling = h; octets = r } =
          ap (λ (l : List ℕ). added_all l unfilled o) (append_assoc (unpadded t) pad (0 ∷ []))
          ∙ rest_added (unpadded t) (pad ++ (0 ∷ [])) unfilled o f p e
          ∙ rest_added pad (0 ∷ []) f p g q d
          ∙ sym (one_added (0 ∷ []) g q 0 refl c) in
          filled_whole (septets t) h r (septets_count t short)
          (subst (λ (x : Added). Filled (septets t ++ (0 ∷ [])) x.filling x.octets) all all_filled.1)
