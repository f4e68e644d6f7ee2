-- A message written from any telling of slots reads back as that telling.
use Rattle.laws.proofs.Base.{◌≡◌, refl, sym, ap, ◌∙◌, Bool, true, false, cond, ◌&&◌, bool_beq, List, [], ◌∷◌, ◌++◌, append_assoc, ℕ, zero, suc, ◌+◌}
use Rattle.laws.proofs.Base.{◌*◌, ◌-◌, ◌/◌, ◌%◌, ◌^◌, ◌≤◌, ◌<◌, zero-div, pow-zero, pow-succ', div-one, div-div-eq-div-mul, add-suc, add-zero}
use Rattle.laws.proofs.Base.{arith, length, get_or, take, drop, replicate, length-append, length-replicate, list_get_d_eq_default, take_at, take-suc}
use Rattle.laws.proofs.Base.{split_at, get_or-append_seam, get_or-append-add, take_all, eqb, ltb, ltb-true, ltb-false, lt-ltb, le-ltb, le-leb, lt-leb}
use Rattle.laws.specs.Radix.{Below}
use Rattle.laws.proofs.Radix.{below_nil, below_cons, below_append, below_replicate}
use Rattle.laws.proofs.Upto.{picked_agree, each_at}
use Rattle.schedule.specs.Paper.{Told, first, again, optional, advised, Shown, octet_at, bitmap, end, new, width, told, place, order, rank, tells, grouped}
use Rattle.schedule_order.proofs.Ranks.{length_order, order_rank, order_below, rank_below}
use Rattle.sender_message.specs.Paper.{octets_of, octets_of_all, grouped_in, group, descriptions, new_bit, new_bits, bitmap_of, used_part, padded, message_of}
use Rattle.sender_message.proofs.Groups.{octets_of_all_append}
use Rattle.sender_message.proofs.Message.{bitmap_length, used_length}
use Rattle.sender_message.proofs.News.{new_bit_few, new_bits_lt}
use Rattle.delivery.specs.Claims.{Tellable, Fits, ReadsBack}

-- the description that stands after some octets
module _ (front rest : List ℕ) where
  at_front : (x : ℕ) (xs : List ℕ) → octet_at (front ++ (x ∷ xs)) (length front) ≡ x
  at_front x xs = get_or-append_seam front x xs 0

  width_at : (t : Told) → Tellable t → width (octet_at (front ++ (octets_of t ++ rest)) (length front)) ≡ length (octets_of t)
  width_at (first x) h = rw (at_front (128 + x / 256) (x % 256 ∷ rest), le-leb 128 (128 + x / 256) (omega arith))
  width_at (again k) h = rw (at_front k rest, lt-leb 128 k (omega arith))
  width_at optional h = rw (at_front 64 rest)
  width_at advised h = rw (at_front 65 rest)

  told_at : (t : Told) → Tellable t → told (front ++ (octets_of t ++ rest)) (length front) ≡ t
  told_at (first x) h =
      let low : 256 * (128 + x / 256 - 128) + x % 256 ≡ x = omega arith in
      rw (
        at_front (128 + x / 256) (x % 256 ∷ rest),
        le-leb 128 (128 + x / 256) (omega arith),
        get_or-append-add front ((128 + x / 256) ∷ x % 256 ∷ rest) 1 0,
      )
      (ap first low)
  told_at (again k) h = rw (at_front k rest, lt-leb 128 k (omega arith), le-leb k 63 (omega arith))
  told_at optional h = rw (at_front 64 rest)
  told_at advised h = rw (at_front 65 rest)

one_below : (x : ℕ) → x < 256 → Below 256 (x ∷ [])
one_below x l = below_cons 256 x [] l (below_nil 256 (omega arith))

octets_below : (t : Told) → Tellable t → Below 256 (octets_of t)
octets_below (first x) h = below_cons 256 (128 + x / 256) (x % 256 ∷ []) (omega arith) (one_below (x % 256) (omega arith))
octets_below (again k) h = one_below k (omega arith)
octets_below optional h = one_below 64 (omega arith)
octets_below advised h = one_below 65 (omega arith)

module _ (s : ℕ → Shown) where
  all_below : (is : List ℕ) → ((k : ℕ) → k < length is → Tellable (s (get_or is k 0)).told) → Below 256 (octets_of_all s is)
  unfolding octets_of_all
  all_below [] h = below_nil 256 (omega arith)
  all_below (i ∷ is) h =
      below_append 256 (octets_of (s i).told) (octets_of_all s is) (octets_below (s i).told (h 0 (omega arith)))
      (all_below is (λ k l. h (suc k) (omega arith)))

  -- the descriptions of some slots, after eight octets and before others
  module _ (front rest slots : List ℕ) where
    abbrev message : List ℕ
    message = front ++ (octets_of_all s slots ++ rest)

    abbrev before : ℕ → List ℕ
    before k = front ++ octets_of_all s (take k slots)

    abbrev after : ℕ → List ℕ
    after k = octets_of_all s (drop (suc k) slots) ++ rest

    -- the octets before a description, its own, and those after it
    split : (k : ℕ) → k < length slots → message ≡ before k ++ (octets_of (s (get_or slots k 0)).told ++ after k)
    unfolding octets_of_all
    split k l =
        ap (λ (is : List ℕ). front ++ (octets_of_all s is ++ rest)) (split_at slots k 0 l)
        ∙ rw (octets_of_all_append s (take k slots) (get_or slots k 0 ∷ drop (suc k) slots)) (simp append_assoc)

    module _ (eight : length front ≡ 8) (each_tellable : (k : ℕ) → k < length slots → Tellable (s (get_or slots k 0)).told) where
      placed : (k : ℕ) → k ≤ length slots → place message k ≡ length (before k)
      unfolding place octets_of_all
      placed zero l = rw (length-append front []) (omega arith)
      placed (suc k) l =
          let t = (s (get_or slots k 0)).told in
          let here : octet_at message (place message k) ≡ octet_at (before k ++ (octets_of t ++ after k)) (length (before k)) =
          ap (λ (a : ℕ). octet_at message a) (placed k (omega arith)) ∙ ap (λ (m : List ℕ). octet_at m (length (before k))) (split k l) in
          rw (here, width_at (before k) (after k) t (each_tellable k l), placed k (omega arith), take-suc slots k 0 l, octets_of_all_append s (take k slots) (get_or slots k 0 ∷ []))
          (simp length-append (omega arith))

      told_placed : (k : ℕ) → k < length slots → told message (place message k) ≡ (s (get_or slots k 0)).told
      told_placed k l =
          let t = (s (get_or slots k 0)).told in
          ap (λ (a : ℕ). told message a) (placed k (omega arith))
          ∙ ap (λ (m : List ℕ). told m (length (before k))) (split k l)
          ∙ told_at (before k) (after k) t (each_tellable k l)

-- the new bits as they are written
module _ (s : ℕ → Shown) (n : ℕ) where
  new_bit_one : (i : ℕ) → eqb (new_bit s n i) 1 ≡ (ltb i n && (s i).new)
  new_bit_one i = go (ltb i n && (s i).new)
    where
      go : (b : Bool) → eqb (cond b 1 0) 1 ≡ b
      go true = refl
      go false = refl

  bitmap_below : Below 256 (bitmap_of s n)
  bitmap_below i = go (ltb i 6) refl
    where
      go : (c : Bool) → ltb i 6 ≡ c → octet_at (bitmap_of s n) i < 256
      go true e = rw (each_at (λ (j : ℕ). new_bits s n j 8) 6 i 0 (ltb-true i 6 e)) (new_bits_lt s n i 8)
      go false e =
          let far : length (bitmap_of s n) ≤ i = omega (arith, ltb-false i 6 e, bitmap_length 0 s n) in
          rw (list_get_d_eq_default (bitmap_of s n) 0 far) (omega arith)

  -- bit r of an octet is that of the slot after which r others of the octet stand
  new_bits_bit : (j k r : ℕ) → new_bits s n j (suc k + r) / 2 ^ r % 2 ≡ new_bit s n (8 * j + k)
  unfolding new_bits
  new_bits_bit j k zero =
      let small = new_bit_few s n j (8 * j + k) in
      rw (add-zero, pow-zero, div-one) (omega arith)
  new_bits_bit j k (suc r) =
      let x = new_bits s n j (suc k + r) in
      let bit = new_bit s n (8 * j + (suc k + r)) in
      let small = new_bit_few s n j (8 * j + (suc k + r)) in
      let half : (2 * x + bit) / 2 ≡ x = omega arith in
      rw (add-suc, pow-succ', ← div-div-eq-div-mul (2 * x + bit) 2 (2 ^ r), half) (new_bits_bit j k r)

module _ (b : ℕ) (s : ℕ → Shown) (n : ℕ) (f : Fits b s n) where
  front : List ℕ
  front = b ∷ n ∷ bitmap_of s n

  slots : List ℕ
  slots = group s n true ++ group s n false

  pad : List ℕ
  pad = replicate (88 - length (used_part b s n)) 43

  m : List ℕ
  m = message_of b s n

  shape : m ≡ message s front pad slots
  unfolding padded used_part descriptions m front slots pad
  shape = ap (λ (l : List ℕ). b ∷ n ∷ l) (append_assoc (bitmap_of s n) (octets_of_all s slots) pad)

  bitmap_back : bitmap m ≡ bitmap_of s n
  unfolding front
  bitmap_back = rw shape (take_at (bitmap_of s n) (octets_of_all s slots ++ pad) 6 (bitmap_length b s n))

  end_back : end m ≡ n
  unfolding front
  end_back = rw shape (omega (arith, f.few))

  new_back : (i : ℕ) → i < 48 → new m i ≡ (ltb i n && (s i).new)
  unfolding new
  new_back i l =
      let j = i / 8 in
      let k = i % 8 in
      let eight : 8 ≡ suc k + (7 - k) = omega arith in
      let here : 8 * j + k ≡ i = omega arith in
      let bits : new_bits s n j 8 / 2 ^ (7 - k) % 2 ≡ new_bit s n i =
      ap (λ (x : ℕ). new_bits s n j x / 2 ^ (7 - k) % 2) eight ∙ new_bits_bit s n j k (7 - k) ∙ ap (new_bit s n) here in
      rw (bitmap_back, each_at (λ (x : ℕ). new_bits s n x 8) 6 j 0 (omega arith), bits) (new_bit_one s n i)

  marks_back : (i : ℕ) → i < n → new m i ≡ (s i).new
  marks_back i l = new_back i (omega (arith, f.few)) ∙ rw (lt-ltb i n l)

  past_back : (i : ℕ) → n ≤ i → new m i ≡ false
  unfolding new
  past_back i l = go (ltb i 48) refl
    where
      go : (c : Bool) → ltb i 48 ≡ c → new m i ≡ false
      go true e = new_back i (ltb-true i 48 e) ∙ rw (le-ltb i n l)
      go false e =
          let far : length (bitmap_of s n) ≤ i / 8 = omega (arith, ltb-false i 48 e, bitmap_length b s n) in
          rw (bitmap_back, list_get_d_eq_default (bitmap_of s n) 0 far, zero-div (2 ^ (7 - i % 8)))

  order_back : order m ≡ slots
  unfolding order slots
  order_back =
      let agree : (c : Bool) (i : ℕ) → i < n → grouped m c i ≡ grouped_in s c i = λ c i l. ap (λ (x : Bool). bool_beq x c) (marks_back i l) in
      rw (end_back, picked_agree (grouped m true) (grouped_in s true) n (agree true), picked_agree (grouped m false) (grouped_in s false) n (agree false))

  slots_length : length slots ≡ n
  slots_length = ap length (sym order_back) ∙ length_order m ∙ end_back

  slots_tellable : (k : ℕ) → k < length slots → Tellable (s (get_or slots k 0)).told
  slots_tellable k l =
      let low : get_or (order m) k 0 < end m = order_below m k (omega (arith, end_back, slots_length)) in
      let same : get_or (order m) k 0 ≡ get_or slots k 0 = ap (λ (x : List ℕ). get_or x k 0) order_back in
      f.tellable (get_or slots k 0) (omega (arith, end_back))

  front_eight : length front ≡ 8
  unfolding front
  front_eight = omega (arith, bitmap_length b s n)

  octets_back : Below 256 m
  unfolding front pad
  octets_back =
      rw shape
      (below_append 256 front (octets_of_all s slots ++ pad)
      (below_cons 256 b (n ∷ bitmap_of s n) (omega (arith, f.begins, f.few)) (below_cons 256 n (bitmap_of s n) (omega (arith, f.few)) (bitmap_below s n)))
      (below_append 256 (octets_of_all s slots) pad (all_below s slots slots_tellable) (below_replicate 256 (88 - length (used_part b s n)) 43 (omega arith))))

  told_back : (i : ℕ) → i < n → tells m i ≡ (s i).told
  unfolding tells
  told_back i l =
      let up : i < end m = omega (arith, end_back) in
      let k = rank m i in
      let own : get_or slots k 0 ≡ i = ap (λ (x : List ℕ). get_or x k 0) (sym order_back) ∙ order_rank m i up in
      let below : k < length slots = omega (arith, rank_below m i up, end_back, slots_length) in
      ap (λ (x : List ℕ). told x (place x k)) shape
      ∙ told_placed s front pad slots front_eight slots_tellable k below
      ∙ ap (λ (j : ℕ). (s j).told) own

  last_back : place m n ≡ 8 + length (descriptions s n)
  unfolding descriptions slots
  last_back =
      ap (λ (x : List ℕ). place x n) shape
      ∙ placed s front pad slots front_eight slots_tellable n (omega (arith, slots_length))
      ∙ rw (take_all n slots (omega (arith, slots_length)), length-append front (octets_of_all s slots), front_eight)

  whole_back : length m ≡ 88
  unfolding m padded
  whole_back =
      length-append (used_part b s n) (replicate (88 - length (used_part b s n)) 43)
      ∙ rw length-replicate (omega (arith, used_length b s n, f.short))

pub reads_back : ReadsBack
unfolding m front
reads_back b s n f =
    record {
      whole = whole_back b s n f;
      octets = octets_back b s n f;
      typed = rw (shape b s n f) (omega (arith, f.begins, f.few));
      begins = rw (shape b s n f) (omega (arith, f.begins, f.few));
      ends = end_back b s n f;
      marks = marks_back b s n f;
      past = past_back b s n f;
      told = told_back b s n f;
      last = last_back b s n f;
    }
