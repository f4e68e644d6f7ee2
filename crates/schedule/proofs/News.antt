-- Laws of the new bits.
use Rattle.laws.proofs.Base.{◌≡◌, refl, sym, ap, ◌∙◌, Bool, true, false, not, bool_beq, false≢true, List, ℕ, ◌+◌, ◌-◌, ◌/◌, ◌%◌, ◌^◌, ◌≤◌, ◌<◌, zero-div}
use Rattle.laws.proofs.Base.{min-le_left, arith, length, take, drop, length-take, list_get_d_eq_default, get_or-take, get_or-drop, eqb, le-leb}
use Rattle.schedule.specs.Paper.{octet_at, end, new, new_past, grouped}

beq_self : (a : Bool) → bool_beq a a ≡ true
beq_self true = refl
beq_self false = refl

beq_true : (a b : Bool) → bool_beq a b ≡ true → a ≡ b
beq_true true true e = refl
beq_true true false e = absurd (false≢true e)
beq_true false true e = absurd (false≢true e)
beq_true false false e = refl

beq_flip : (a : Bool) → bool_beq a false ≡ not (bool_beq a true)
beq_flip true = refl
beq_flip false = refl

module _ (m : List ℕ) (i : ℕ) where
  -- a slot's new bit by the octet of the message that has it
  pub new_octet : i < 48 → eqb (octet_at m (2 + i / 8) / 2 ^ (7 - i % 8) % 2) 1 ≡ new m i
  unfolding new
  new_octet h =
      let inside : i / 8 < 6 = omega arith in
      rw (get_or-take 6 (drop 2 m) (i / 8) 0 inside, get_or-drop 2 m (i / 8) 0)

  -- no slot beyond the 48 has a new bit
  pub new_beyond : 48 ≤ i → false ≡ new m i
  unfolding new
  new_beyond h =
      let few : length (take 6 (drop 2 m)) ≤ 6 = rw length-take (min-le_left 6 (length (drop 2 m))) in
      let far : length (take 6 (drop 2 m)) ≤ i / 8 = omega arith in
      rw (list_get_d_eq_default (take 6 (drop 2 m)) 0 far, zero-div (2 ^ (7 - i % 8)))

  -- what is not in the one group is in the other
  pub grouped_flip : grouped m false i ≡ not (grouped m true i)
  grouped_flip = beq_flip (new m i)

  pub grouped_own : grouped m (new m i) i ≡ true
  grouped_own = beq_self (new m i)

  -- a slot past End is refused by its new bit
  pub new_past_from : (b : Bool) → end m ≤ i → b ≡ new m i → new_past m i ≡ b
  new_past_from b h e = rw (le-leb (end m) i h) (sym e)

  module _ (b : Bool) where
    -- a slot is in a group or not by its new bit
    pub grouped_told : (r v : Bool) → r ≡ new m i → bool_beq r b ≡ v → grouped m b i ≡ v
    grouped_told r v e h = ap (λ (x : Bool). bool_beq x b) (sym e) ∙ h

    pub grouped_is : grouped m b i ≡ true → new m i ≡ b
    grouped_is e = beq_true (new m i) b e
