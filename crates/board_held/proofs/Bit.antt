-- A power of two added to a number in which that bit is clear: it sets the bit, and no other changes.
use Rattle.laws.proofs.Base.{◌≡◌, sym, ap, ◌∙◌, ℕ, ◌+◌, ◌*◌, ◌-◌, ◌/◌, ◌%◌, ◌^◌, ◌≤◌, ◌<◌, add-div_right, add-mul-div_left, lt-mul-div-succ, mul-add, mul-le-mul_left, arith}
use lib.Pow.{pow_pos, pow-add, shr-shr, shr_lt}

module _ (h k : ℕ) where
  next : (h + 2 ^ k) / 2 ^ k ≡ h / 2 ^ k + 1
  next = add-div_right h (pow_pos k)

  -- a lower bit stays, whatever bit k is
  pub bit_below : (j : ℕ) → j < k → (h + 2 ^ k) / 2 ^ j % 2 ≡ h / 2 ^ j % 2
  bit_below j l =
      let d : ℕ = k - j - 1 in
      let split : k ≡ j + (1 + d) = omega arith in
      let power : 2 ^ k ≡ 2 ^ j * (2 * 2 ^ d) = ap (λ (n : ℕ). 2 ^ n) split ∙ pow-add 2 j (1 + d) ∙ ap (λ (x : ℕ). 2 ^ j * x) (pow-add 2 1 d) in
      let quotient : (h + 2 ^ k) / 2 ^ j ≡ h / 2 ^ j + 2 * 2 ^ d = rw power (add-mul-div_left h (2 * 2 ^ d) (pow_pos j)) in
      rw quotient (omega arith)

  module _ (clear : h / 2 ^ k % 2 ≡ 0) where
    pub bit_set : (h + 2 ^ k) / 2 ^ k % 2 ≡ 1
    bit_set = rw next (omega arith)

    pub bit_above : (j : ℕ) → k < j → (h + 2 ^ k) / 2 ^ j ≡ h / 2 ^ j
    bit_above j l =
        let d : ℕ = j - k - 1 in
        let split : k + (1 + d) ≡ j = omega arith in
        let half : (h + 2 ^ k) / 2 ^ k / 2 ≡ h / 2 ^ k / 2 = rw next (omega arith) in
        let parts : (x : ℕ) → x / 2 ^ k / 2 / 2 ^ d ≡ x / 2 ^ j = λ x. shr-shr (x / 2 ^ k) 1 d ∙ shr-shr x k (1 + d) ∙ ap (λ (n : ℕ). x / 2 ^ n) split in
        sym (parts (h + 2 ^ k)) ∙ ap (λ (x : ℕ). x / 2 ^ d) half ∙ parts h

    -- the sum has no more bits than the number
    pub bit_fits : (n : ℕ) → k < n → h < 2 ^ n → h + 2 ^ k < 2 ^ n
    bit_fits n l small =
        let d : ℕ = n - k - 1 in
        let split : n ≡ k + (1 + d) = omega arith in
        let power : 2 ^ n ≡ 2 ^ k * (2 * 2 ^ d) = ap (λ (x : ℕ). 2 ^ x) split ∙ pow-add 2 k (1 + d) ∙ ap (λ (x : ℕ). 2 ^ k * x) (pow-add 2 1 d) in
        let q : ℕ = h / 2 ^ k in
        let few : q < 2 ^ (1 + d) = shr_lt (1 + d) k (let e : n ≡ 1 + d + k = omega arith in rw e at small) in
        let room : q + 2 ≤ 2 * 2 ^ d = omega (arith, pow-add 2 1 d) in
        let most : 2 ^ k * (q + 2) ≤ 2 ^ k * (2 * 2 ^ d) = mul-le-mul_left (2 ^ k) room in
        rw power (omega (arith, mul-add (2 ^ k) q 2, mul-add (2 ^ k) q 1, lt-mul-div-succ h (pow_pos k)))
