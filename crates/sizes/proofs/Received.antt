-- Which numbers are those of one to four blocks.
use Rattle.laws.proofs.Base.{◌≡◌, refl, true, false, ◌⊎◌, inl, inr, ℕ, zero, suc, ◌*◌, ◌≤◌, arith, eqb, ne_eqb, eqb-true}
use Rattle.laws.proofs.Tests.{true_or_false}
use Rattle.sizes.specs.Paper.{whole_blocks}

-- one to four blocks of octets
abbrev pub Blocks : ℕ → Type 0
Blocks n = (n ≡ 22) ⊎ ((n ≡ 44) ⊎ ((n ≡ 66) ⊎ (n ≡ 88)))

pub whole : (n : ℕ) → Blocks n → whole_blocks n ≡ true
unfolding whole_blocks
whole n (inl e) = rw e
whole n (inr (inl e)) = rw e
whole n (inr (inr (inl e))) = rw e
whole n (inr (inr (inr e))) = rw e

pub not_whole : (n : ℕ) → (Blocks n → ⊥) → whole_blocks n ≡ false
unfolding whole_blocks
not_whole n ne =
    simp (
      ne_eqb n 22 (λ e. ne (inl e)),
      ne_eqb n 44 (λ e. ne (inr (inl e))),
      ne_eqb n 66 (λ e. ne (inr (inr (inl e)))),
      ne_eqb n 88 (λ e. ne (inr (inr (inr e)))),
    )

-- at least one block is received, and at most the message
pub whole_bounds : (n : ℕ) → whole_blocks n ≡ true → (22 ≤ n) × (n ≤ 88)
unfolding whole_blocks
whole_bounds n w =
    true_or_false (eqb n 22) (λ e. omega (arith, eqb-true n 22 e)) (λ a.
    true_or_false (eqb n 44) (λ e. omega (arith, eqb-true n 44 e)) (λ b.
    true_or_false (eqb n 66) (λ e. omega (arith, eqb-true n 66 e)) (λ c. omega (arith, eqb-true n 88 (rw (a, b, c) at w)))))

-- the octets of one to four blocks are whole blocks
pub whole_times : (j : ℕ) → 1 ≤ j → j ≤ 4 → whole_blocks (22 * j) ≡ true
unfolding whole_blocks
whole_times zero l m = absurd (omega arith)
whole_times (suc zero) l m = refl
whole_times (suc (suc zero)) l m = refl
whole_times (suc (suc (suc zero))) l m = refl
whole_times (suc (suc (suc (suc zero)))) l m = refl
whole_times (suc (suc (suc (suc (suc j))))) l m = absurd (omega arith)
