-- Laws of a set of slots held: case by case, and what entering a slot does to it.
use Rattle.laws.proofs.Base.{◌≡◌, sym, ap, ◌∙◌, true, false, ◌&&◌, and-false, ⊎_elim, ℕ, ◌+◌, ◌*◌, ◌-◌, ◌/◌, ◌%◌, ◌^◌, ◌≤◌, ◌<◌}
use Rattle.laws.proofs.Base.{eq-or-lt_of_le, one-mul, zero-div, arith, eqb, leb, lit<, le-leb, lt-leb, eqb-true, eqb-false, eq-eqb}
use lib.Pow.{shl_exact}
use Rattle.laws.proofs.Tests.{true_or_false, le_or_lt}
use Rattle.board_held.specs.Paper.{is_held, enter}
use Rattle.board_held.proofs.Bit.{bit_below, bit_set, bit_above, bit_fits}

-- a number of a slot
pub record Slot (n : ℕ) : Type 0 where
  pub some : 1 ≤ n
  pub low : n ≤ 48

module _ (h n : ℕ) where
  pub held_low : n < 1 → is_held h n ≡ false
  unfolding is_held
  held_low l = rw (lt-leb 1 n l)

  pub held_high : 48 < n → is_held h n ≡ false
  unfolding is_held
  held_high l =
      let some : 1 ≤ n = omega arith in
      rw (le-leb 1 n some, lt-leb n 48 l)

  pub held_bit : Slot n → is_held h n ≡ eqb (h / 2 ^ (n - 1) % 2) 1
  unfolding is_held
  held_bit s = rw (le-leb 1 n s.some, le-leb n 48 s.low)

  pub enter_low : n < 1 → enter h n ≡ h
  unfolding enter
  enter_low l = rw (lt-leb 1 n l)

  pub enter_high : 48 < n → enter h n ≡ h
  unfolding enter
  enter_high l =
      let some : 1 ≤ n = omega arith in
      rw (le-leb 1 n some, lt-leb n 48 l)

  pub enter_held : Slot n → is_held h n ≡ true → enter h n ≡ h
  unfolding enter
  enter_held s e = rw (le-leb 1 n s.some, le-leb n 48 s.low, e)

  pub enter_new : Slot n → is_held h n ≡ false → enter h n ≡ h + 2 ^ (n - 1)
  unfolding enter
  enter_new s e = rw (le-leb 1 n s.some, le-leb n 48 s.low, e)

  -- the bit of a slot that isn't held is clear
  pub clear : Slot n → is_held h n ≡ false → h / 2 ^ (n - 1) % 2 ≡ 0
  clear s e =
      let off = eqb-false (h / 2 ^ (n - 1) % 2) 1 (sym (held_bit s) ∙ e) in
      omega arith

-- the empty set holds no slot
pub held_none : (n : ℕ) → is_held 0 n ≡ false
unfolding is_held
held_none n = rw (zero-div (2 ^ (n - 1))) (and-false (leb 1 n && leb n 48))

-- what follows of a number that is a slot's, and of one that isn't
slot_or_not : {C : Type 0} (n : ℕ) → (Slot n → C) → (n < 1 → C) → (48 < n → C) → C
slot_or_not n slot low high = le_or_lt 1 n (λ l. le_or_lt n 48 (λ m. slot (record { some = l; low = m })) high) low

-- entering a slot holds it
pub held_entered : (h n : ℕ) → Slot n → is_held (enter h n) n ≡ true
held_entered h n s =
    true_or_false (is_held h n)
    (λ e. rw (enter_held h n s e) e)
    (λ e. rw (enter_new h n s e) (held_bit (h + 2 ^ (n - 1)) n s ∙ eq-eqb _ 1 (bit_set h (n - 1) (clear h n s e))))

-- and no other changes
module _ (h n k : ℕ) (apart : n ≡ k → ⊥) where
  other_bit : Slot n → Slot k → is_held h n ≡ false → (h + 2 ^ (n - 1)) / 2 ^ (k - 1) % 2 ≡ h / 2 ^ (k - 1) % 2
  other_bit s t e =
      le_or_lt n k
      (λ l.
      let up : n - 1 < k - 1 = ⊎_elim (λ q. absurd (apart q)) (λ b. omega (arith, s.some)) (eq-or-lt_of_le l) in
      rw (bit_above h (n - 1) (clear h n s e) (k - 1) up))
      (λ l. bit_below h (n - 1) (k - 1) (omega (arith, t.some)))

  added : Slot n → is_held h n ≡ false → is_held (h + 2 ^ (n - 1)) k ≡ is_held h k
  added s e =
      slot_or_not k
      (λ t. held_bit (h + 2 ^ (n - 1)) k t ∙ ap (λ (x : ℕ). eqb x 1) (other_bit s t e) ∙ sym (held_bit h k t))
      (λ l. held_low (h + 2 ^ (n - 1)) k l ∙ sym (held_low h k l))
      (λ l. held_high (h + 2 ^ (n - 1)) k l ∙ sym (held_high h k l))

  pub held_others : is_held (enter h n) k ≡ is_held h k
  held_others =
      slot_or_not n
      (λ s. true_or_false (is_held h n) (λ e. rw (enter_held h n s e)) (λ e. rw (enter_new h n s e) (added s e)))
      (λ l. rw (enter_low h n l)) (λ l. rw (enter_high h n l))

-- what is held stays held
pub held_kept : (h n k : ℕ) → is_held h k ≡ true → is_held (enter h n) k ≡ true
held_kept h n k e =
    slot_or_not n
    (λ s.
    true_or_false (eqb n k)
    (λ q. rw (← eqb-true n k q) (held_entered h n s))
    (λ q. held_others h n k (eqb-false n k q) ∙ e))
    (λ l. rw (enter_low h n l) e) (λ l. rw (enter_high h n l) e)

-- as the code does it: a shift of 1
module _ (h n : ℕ) (s : Slot n) (e : is_held h n ≡ false) where
  shifted : (1 * 2 ^ (n - 1)) % 2 ^ 64 ≡ 2 ^ (n - 1)
  shifted =
      let few : 1 + (n - 1) ≤ 64 = omega (arith, s.low) in
      shl_exact 1 (n - 1) 64 (lit< tt) few ∙ one-mul (2 ^ (n - 1))

  pub enter_shifted : enter h n ≡ h + (1 * 2 ^ (n - 1)) % 2 ^ 64
  enter_shifted = rw shifted (enter_new h n s e)

  pub enter_fits : h < 2 ^ 64 → h + (1 * 2 ^ (n - 1)) % 2 ^ 64 < 2 ^ 64
  enter_fits small =
      let few : n - 1 < 64 = omega (arith, s.low) in
      rw shifted (bit_fits h (n - 1) (clear h n s e) 64 few small)
