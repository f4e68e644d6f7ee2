-- Laws of numbers and their digits: lists joined and cut, and digits of one base read in another.
use Rattle.laws.proofs.Base.{◌≡◌, refl, sym, ap, ◌∙◌, List, [], ◌∷◌, ◌++◌, append_assoc, append-nil, ℕ, zero, suc, ◌+◌, ◌*◌, ◌/◌, ◌%◌, ◌^◌, ◌-◌}
use Rattle.laws.proofs.Base.{◌<◌, ◌≤◌, zero-add, suc-add, add_assoc, mul-add, mul_assoc, mul-zero, one-mul, mul-one, mul_comm, pow-zero, pow-succ'}
use Rattle.laws.proofs.Base.{div-one, div-div-eq-div-mul, add-mul-mod_self_left, add-mul-div_left, mod-eq_of_lt, div-eq_of_lt, mul-le-mul_left}
use Rattle.laws.proofs.Base.{mul-suc, add-sub_cancel_left, add-sub_of_le, mod-add-div, one-le-pow, pow-suc, pow-le-pow_right, lt_of_lt_of_le}
use Rattle.laws.proofs.Base.{sub-le, le_refl, add-one, arith, length, get_or, take, drop, set, replicate, length-append, length-drop, take-append-drop}
use Rattle.laws.proofs.Base.{drop_of_length-le, drop-cons, get_or-drop, set_at, append_snoc, take_at, take-add, take_all, length-take-le}
use lib.Pow.{pow-add}
use Rattle.laws.specs.Radix.{value, digits, Below}

pub length_digits : (b n v : ℕ) → length (digits b n v) ≡ n
unfolding digits
length_digits b zero v = refl
length_digits b (suc n) v = ap suc (length_digits b n (v / b))

pub below_nil : (b : ℕ) → 0 < b → Below b []
below_nil b h i = h

pub below_tail : (b x : ℕ) (xs : List ℕ) → Below b (x ∷ xs) → Below b xs
below_tail b x xs h i = h (suc i)

pub below_take : (b n : ℕ) (xs : List ℕ) → Below b xs → Below b (take n xs)
below_take b zero xs h i = omega (arith, h 0)
below_take b (suc n) [] h i = h i
below_take b (suc n) (x ∷ xs) h zero = h 0
below_take b (suc n) (x ∷ xs) h (suc i) = below_take b n xs (below_tail b x xs h) i

pub below_cons : (b x : ℕ) (xs : List ℕ) → x < b → Below b xs → Below b (x ∷ xs)
below_cons b x xs h low zero = h
below_cons b x xs h low (suc i) = low i

pub below_append : (b : ℕ) (xs ys : List ℕ) → Below b xs → Below b ys → Below b (xs ++ ys)
below_append b [] ys h k = k
below_append b (x ∷ xs) ys h k = below_cons b x (xs ++ ys) (h 0) (below_append b xs ys (below_tail b x xs h) k)

pub below_replicate : (b n x : ℕ) → x < b → Below b (replicate n x)
below_replicate b zero x h = below_nil b (omega arith)
below_replicate b (suc n) x h = below_cons b x (replicate n x) h (below_replicate b n x h)

-- a number is below the base's power that its digits fill
pub value_lt : (b : ℕ) (xs : List ℕ) → Below b xs → value b xs < b ^ length xs
unfolding value
value_lt b [] h = rw pow-zero (le_refl 1)
value_lt b (x ∷ xs) h =
    let v : value b xs < b ^ length xs = value_lt b xs (below_tail b x xs h) in
    let m : b * suc (value b xs) ≤ b * b ^ length xs = mul-le-mul_left b v in
    rw pow-succ' (omega (arith, h 0, mul-suc b (value b xs)))

-- joined lists: the second one's number counts by the power that the first one fills
pub value_append : (b : ℕ) (xs ys : List ℕ) → value b (xs ++ ys) ≡ value b xs + b ^ length xs * value b ys
unfolding value
value_append b [] ys = rw (pow-zero, zero-add, one-mul)
value_append b (x ∷ xs) ys = rw (value_append b xs ys, mul-add, pow-succ', mul_assoc, add_assoc)

-- the number from place i on, digit by digit
value_drop : (b i : ℕ) (xs : List ℕ) → i < length xs → value b (drop i xs) ≡ get_or xs i 0 + b * value b (drop (i + 1) xs)
unfolding value
value_drop b i xs h = rw (add-one i, drop-cons xs i 0)

-- one digit more in front
pub value_back : (b i : ℕ) (xs : List ℕ) → 0 < i → i ≤ length xs → value b (drop i xs) * b + get_or xs (i - 1) 0 ≡ value b (drop (i - 1) xs)
value_back b i xs p h =
    let k : i - 1 < length xs = omega arith in
    let e : i - 1 + 1 ≡ i = omega arith in
    rw (value_drop b (i - 1) xs k, e) (omega (arith, mul_comm (value b (drop i xs)) b))

-- the first n digits, and those from there on
digits_split : (b n m v : ℕ) → digits b (n + m) v ≡ digits b n v ++ digits b m (v / b ^ n)
unfolding digits
digits_split b zero m v = rw (zero-add, pow-zero, div-one)
digits_split b (suc n) m v = rw (suc-add, digits_split b n m (v / b), pow-succ', div-div-eq-div-mul)

-- one digit more
pub digits_more : (b n v : ℕ) → digits b (n + 1) v ≡ digits b n v ++ (v / b ^ n % b ∷ [])
unfolding digits
digits_more b n v = digits_split b n 1 v

-- n digits see nothing of what counts by the n-th power
pub digits_low : (b : ℕ) → 0 < b → (n v q : ℕ) → digits b n (v + b ^ n * q) ≡ digits b n v
unfolding digits
digits_low b h zero v q = refl
digits_low b h (suc n) v q =
    rw (pow-succ', mul_assoc, add-mul-mod_self_left, add-mul-div_left v (b ^ n * q) h, digits_low b h n (v / b) q)

-- a list of digits is that of its number
digits_value : (b : ℕ) (xs : List ℕ) → Below b xs → digits b (length xs) (value b xs) ≡ xs
unfolding digits value
digits_value b [] h = refl
digits_value b (x ∷ xs) h =
    let p : 0 < b = omega (arith, h 0) in
    rw (add-mul-mod_self_left, mod-eq_of_lt (h 0), add-mul-div_left x (value b xs) p, div-eq_of_lt (h 0), zero-add, digits_value b xs (below_tail b x xs h))

-- what is left of digits from a place on are digits
pub below_drop : (b i : ℕ) (xs : List ℕ) → Below b xs → Below b (drop i xs)
below_drop b i xs h j = rw get_or-drop (h (i + j))

-- the number from a place on is below the power that the whole list fills
pub value_drop_lt : (b i : ℕ) (xs : List ℕ) → Below b xs → value b (drop i xs) < b ^ length xs
value_drop_lt b i xs h =
    let p : 0 < b = omega (arith, h 0) in
    lt_of_lt_of_le
    (value_lt b (drop i xs) (below_drop b i xs h))
    (pow-le-pow_right p (rw length-drop (sub-le (length xs) i)))

-- one more digit is stored at its place
pub digits_store : (b i v : ℕ) (o : List ℕ) → i < length o
    → set (digits b i v ++ drop i o) i (v / b ^ i % b) ≡ digits b (i + 1) v ++ drop (i + 1) o
digits_store b i v o h =
    rw (drop-cons o i 0 h, digits_more, add-one)
    (set_at (digits b i v) (get_or o i 0) (drop (suc i) o) (v / b ^ i % b) i (length_digits b i v) ∙ sym (append_snoc (digits b i v) (v / b ^ i % b) (drop (suc i) o)))

-- what is left of a number after one more digit
pub div_more : (b i v : ℕ) → v / b ^ i / b ≡ v / b ^ (i + 1)
div_more b i v = rw (add-one, pow-suc, div-div-eq-div-mul)

-- groups of n digits to base b that fill m digits to base c, any number of them
powers : (b c n m : ℕ) → b ^ n ≡ c ^ m → (g : ℕ) → b ^ (n * g) ≡ c ^ (m * g)
powers b c n m e zero = simp (mul-zero, pow-zero)
powers b c n m e (suc g) = simp (mul-suc, pow-add, powers b c n m e g, e)

-- a list of digits to base b is read group by group: n of them are m digits to base c. The first g groups stand in d
module _ (b c n m g : ℕ) (pos : 0 < c) (e : b ^ n ≡ c ^ m) (src d : List ℕ) (low : Below b src)
    (done : take (m * g) d ≡ digits c (m * g) (value b (take (n * g) src))) (within : n * g ≤ length src) where
  joined : (ys : List ℕ) (r : ℕ)
      → digits c (m * g + r) (value b (take (n * g) src ++ ys)) ≡ take (m * g) d ++ digits c r (value b ys)
  joined ys r =
      let xs : List ℕ = take (n * g) src in
      let filled : b ^ length xs ≡ c ^ (m * g) = rw (length-take-le (n * g) src within) (powers b c n m e g) in
      let l : value b xs < c ^ (m * g) = rw filled at (value_lt b xs (below_take b (n * g) src low)) in
      rw (
        value_append b xs ys,
        filled,
        digits_split c (m * g) r,
        digits_low c pos (m * g),
        add-mul-div_left (value b xs) (value b ys) (one-le-pow (m * g) c pos),
        div-eq_of_lt l,
        zero-add,
        done,
      )

  -- a loop's turn: the number w of one more group of src is put into the next place of d, which y then is
  pub group_turn : (w : ℕ) (y : List ℕ) → m * g + m ≤ length d
      → w ≡ value b (take (n * g + n - n * g) (drop (n * g) src))
      → y ≡ digits c (length (take (m * g + m - m * g) (drop (m * g) d))) w
      → take (m * (g + 1)) (take (m * g) d ++ (y ++ drop (m * g + m - m * g) (drop (m * g) d))) ≡ digits c (m * (g + 1)) (value b (take (n * (g + 1)) src))
  group_turn w y l p q =
      let room : length (take m (drop (m * g) d)) ≡ m = length-take-le m (drop (m * g) d) (rw length-drop (omega arith)) in
      let e : y ≡ digits c m (value b (take n (drop (n * g) src))) =
      q ∙ rw (p, add-sub_cancel_left (m * g) m, add-sub_cancel_left (n * g) n, room) in
      let k : length (take (m * g) d ++ y) ≡ m * g + m = rw (length-append, length-take-le (m * g) d (omega arith), e, length_digits) in
      rw (mul-add m g 1, mul-one m, mul-add n g 1, mul-one n, ← append_assoc, take_at (take (m * g) d ++ y) _ (m * g + m) k, take-add (n * g) n src)
      (ap (λ (x : List ℕ). take (m * g) d ++ x) e ∙ sym (joined (take n (drop (n * g) src)) m))

  -- after the loop: the number w of what is left of src is put into what is left of d
  pub group_end : (w : ℕ) (y : List ℕ) → m * g ≤ length d
      → w ≡ value b (take (length src - n * g) (drop (n * g) src))
      → y ≡ digits c (length (take (length d - m * g) (drop (m * g) d))) w
      → take (m * g) d ++ (y ++ drop (length d - m * g) (drop (m * g) d)) ≡ digits c (length d) (value b src)
  group_end w y l p q =
      let r : ℕ = length d - m * g in
      let all : take (length src - n * g) (drop (n * g) src) ≡ drop (n * g) src = take_all (length src - n * g) (drop (n * g) src) (rw length-drop (le_refl _)) in
      let room : length (take r (drop (m * g) d)) ≡ r = length-take-le r (drop (m * g) d) (rw length-drop (le_refl _)) in
      let e : y ≡ digits c r (value b (drop (n * g) src)) = q ∙ rw (p, all, room) in
      let none : drop r (drop (m * g) d) ≡ [] = drop_of_length-le (drop (m * g) d) {i = r} (rw length-drop (le_refl _)) in
      let whole : m * g + r ≡ length d = add-sub_of_le l in
      rw (none, append-nil y)
      (ap (λ (x : List ℕ). take (m * g) d ++ x) e
      ∙ sym (joined (drop (n * g) src) r)
      ∙ rw (take-append-drop (n * g) src, whole))

-- the first k of n digits
pub take_digits : (b k n v : ℕ) → k ≤ n → take k (digits b n v) ≡ digits b k v
take_digits b k n v h =
    rw (← add-sub_of_le h, digits_split b k (n - k) v) (take_at (digits b k v) _ k (length_digits b k v))

-- the first k digits of a list's number are the first k of the list
pub digits_front : (b k : ℕ) (xs : List ℕ) → Below b xs → k ≤ length xs → digits b k (value b xs) ≡ take k xs
digits_front b k xs low h = sym (take_digits b k (length xs) (value b xs) h) ∙ ap (take k) (digits_value b xs low)

-- a number is that of its n lowest digits, and what counts by the n-th power
value_digits : (b n v : ℕ) → value b (digits b n v) + b ^ n * (v / b ^ n) ≡ v
unfolding value digits
value_digits b zero v = rw (pow-zero, div-one, one-mul, zero-add)
value_digits b (suc n) v =
    rw (pow-succ', ← div-div-eq-div-mul, add_assoc, mul_assoc, ← mul-add, value_digits b n (v / b)) (mod-add-div v b)

-- digits to base c of some digits to base b, where these hold all of those
pub digits_kept : (b c n k r v : ℕ) → 0 < c → c ^ k * r ≡ b ^ n → digits c k (value b (digits b n v)) ≡ digits c k v
digits_kept b c n k r v pos e =
    sym (digits_low c pos k (value b (digits b n v)) (r * (v / b ^ n)))
    ∙ rw (← mul_assoc (c ^ k) r (v / b ^ n), e, value_digits b n v)

-- powers of two as powers of 2 ^ q
pub power_bits : (q k : ℕ) → (2 ^ q) ^ k ≡ 2 ^ (q * k)
power_bits q zero = simp (mul-zero, pow-zero)
power_bits q (suc k) = simp (mul-suc, pow-add, pow-suc, power_bits q k)
