-- Laws of the new bits.
use Rattle.laws.proofs.Base.{◌≡◌, Bool, true, false, cond, ◌&&◌, ℕ, zero, suc, ◌+◌, ◌*◌, ◌≤◌, ◌<◌, ◌^◌, pow-zero, pow-succ', pow-le-pow_right, le_refl, add-one, arith, ltb}
use Rattle.schedule.specs.Paper.{Shown}
use Rattle.sender_message.specs.Paper.{new_bit, new_bits}

bit_few : (b : Bool) → cond b 1 0 ≤ 1
bit_few true = omega arith
bit_few false = omega arith

module _ (s : ℕ → Shown) (n j : ℕ) where
  pub new_bit_few : (i : ℕ) → new_bit s n i ≤ 1
  new_bit_few i = bit_few (ltb i n && (s i).new)

  pub new_bits_lt : (k : ℕ) → new_bits s n j k < 2 ^ k
  unfolding new_bits
  new_bits_lt zero = rw pow-zero (le_refl 1)
  new_bits_lt (suc k) = let h = new_bits_lt k in rw pow-succ' (omega (arith, new_bit_few (8 * j + k)))

  -- there is room for one bit more in an octet
  pub new_bits_room : (k : ℕ) → k < 8 → new_bits s n j k < 128
  new_bits_room k h = let low : k ≤ 7 = omega arith in let p : 2 ^ k ≤ 2 ^ 7 = pow-le-pow_right {n = 2} (omega arith) low in omega (arith, new_bits_lt k)

  pub new_bits_next : (k : ℕ) → new_bits s n j (k + 1) ≡ 2 * new_bits s n j k + new_bit s n (8 * j + k)
  unfolding new_bits
  new_bits_next k = rw add-one
