-- The new bits as one number, octet by octet.
use Rattle.laws.proofs.Base.{◌≡◌, refl, ap, ◌∙◌, Bool, true, false, List, ℕ, zero, suc, ◌+◌, ◌*◌, ◌-◌, ◌/◌, ◌%◌, ◌^◌, ◌≤◌, ◌<◌, arith}
use Rattle.laws.proofs.Base.{add_comm, mul_assoc, add-mul-div_left, div-div-eq-div-mul, pow-le-pow_right, eqb, ltb, ltb-true, ltb-false}
use lib.Pow.{pow_pos, pow-add}
use Rattle.schedule.specs.Paper.{octet_at}
use Rattle.schedule.proofs.News.{new_octet}
use Rattle.schedule_places.specs.Inner.{NewBits}

-- a bit of the last of some octets
low_bit : (p q x : ℕ) → p < 8 → (256 * q + x) / 2 ^ p % 2 ≡ x / 2 ^ p % 2
low_bit p q x h =
    let d : ℕ = 7 - p in
    let split : 8 ≡ p + (1 + d) = omega arith in
    let power : 256 ≡ 2 ^ p * (2 * 2 ^ d) = ap (λ (n : ℕ). 2 ^ n) split ∙ pow-add 2 p (1 + d) ∙ ap (λ (y : ℕ). 2 ^ p * y) (pow-add 2 1 d) in
    let high : 256 * q ≡ 2 ^ p * (2 * (2 ^ d * q)) =
    ap (λ (y : ℕ). y * q) power ∙ mul_assoc (2 ^ p) (2 * 2 ^ d) q ∙ ap (λ (y : ℕ). 2 ^ p * y) (mul_assoc 2 (2 ^ d) q) in
    let quotient : (256 * q + x) / 2 ^ p ≡ x / 2 ^ p + 2 * (2 ^ d * q) =
    ap (λ (y : ℕ). y / 2 ^ p) (add_comm (256 * q) x ∙ ap (λ (y : ℕ). x + y) high) ∙ add-mul-div_left x (2 * (2 ^ d * q)) (pow_pos p) in
    rw quotient (omega arith)

-- a bit of those before it
high_bit : (p q x : ℕ) → x < 256 → (256 * q + x) / 2 ^ (8 + p) ≡ q / 2 ^ p
high_bit p q x h =
    let all : (256 * q + x) / 256 ≡ q = omega arith in
    rw (pow-add 2 8 p, ← div-div-eq-div-mul (256 * q + x) 256 (2 ^ p), all)

module _ (m : List ℕ) where
  -- the first so many octets of new bits as one number
  unfoldable pub joined : ℕ → ℕ
  joined zero = 0
  joined (suc j) = 256 * joined j + octet_at m (2 + j)

  module _ (octets : (i : ℕ) → octet_at m i < 256) where
    joined_small : (j : ℕ) → joined j < 2 ^ (8 * j)
    unfolding joined
    joined_small zero = omega arith
    joined_small (suc j) =
        let size : 8 * suc j ≡ 8 + 8 * j = omega arith in
        rw (size, pow-add 2 8 (8 * j)) (omega (arith, joined_small j, octets (2 + j)))

    -- the number of five octets leaves room for one more
    pub joined_room : (j : ℕ) → j < 6 → joined j < 2 ^ 40
    joined_room j h =
        let five : 8 * j ≤ 40 = omega arith in
        omega (arith, joined_small j, pow-le-pow_right {n = 2} (omega arith) five)

    -- the bit of each slot
    joined_bit : (j i : ℕ) → i < 8 * j → joined j / 2 ^ (8 * j - 1 - i) % 2 ≡ octet_at m (2 + i / 8) / 2 ^ (7 - i % 8) % 2
    unfolding joined
    joined_bit zero i h = absurd (omega arith)
    joined_bit (suc j) i h = go (joined_bit j i) (ltb i (8 * j)) refl
      where
        go : (i < 8 * j → joined j / 2 ^ (8 * j - 1 - i) % 2 ≡ octet_at m (2 + i / 8) / 2 ^ (7 - i % 8) % 2) → (b : Bool) → ltb i (8 * j) ≡ b
            → joined (suc j) / 2 ^ (8 * suc j - 1 - i) % 2 ≡ octet_at m (2 + i / 8) / 2 ^ (7 - i % 8) % 2
        go before true e =
            let low = ltb-true i (8 * j) e in
            let up : 8 * suc j - 1 - i ≡ 8 + (8 * j - 1 - i) = omega arith in
            rw (up, high_bit (8 * j - 1 - i) (joined j) (octet_at m (2 + j)) (octets (2 + j))) (before low)
        go before false e =
            let high = ltb-false i (8 * j) e in
            let own : i / 8 ≡ j = omega arith in
            let bit : 8 * suc j - 1 - i ≡ 7 - i % 8 = omega arith in
            rw (bit, own) (low_bit (7 - i % 8) (joined j) (octet_at m (2 + j)) (omega arith))

    pub joined_new : NewBits m (joined 6)
    joined_new i h = ap (λ (x : ℕ). eqb x 1) (joined_bit 6 i h) ∙ new_octet m i h
