-- Laws of the places where descriptions start, and of what stands there.
use Rattle.laws.proofs.Base.{◌≡◌, Bool, true, false, cond, List, ℕ, zero, suc, ◌+◌, ◌≤◌, ◌<◌, eq-or-lt_of_le, le_of_suc-le-suc}
use Rattle.laws.proofs.Base.{not-suc-le-zero, add-one, arith, ⊎_elim, leb}
use Rattle.schedule.specs.Paper.{octet_at, width, place}

pub width_some : (x : ℕ) → 1 ≤ width x
width_some x = go (leb 128 x)
  where
    go : (b : Bool) → 1 ≤ cond b 2 1
    go true = omega arith
    go false = omega arith

module _ (m : List ℕ) where
  pub place_next : (k : ℕ) → place m (k + 1) ≡ place m k + width (octet_at m (place m k))
  unfolding place
  place_next k = rw add-one

  place_up : (k l : ℕ) → k < l → place m (suc k) ≤ place m l
  unfolding place
  place_up k zero h = absurd (not-suc-le-zero h)
  place_up k (suc l) h =
      ⊎_elim (λ e. rw e (omega arith)) (λ b. let up = place_up k l b in omega arith) (eq-or-lt_of_le (le_of_suc-le-suc h))

  -- a description ends where a later one starts, or before
  pub place_after : (k l : ℕ) → k < l → place m k + width (octet_at m (place m k)) ≤ place m l
  unfolding place
  place_after k l h = place_up k l h

  pub place_mono : (k l : ℕ) → k ≤ l → place m k ≤ place m l
  place_mono k l h =
      ⊎_elim (λ e. rw e (omega arith)) (λ b. let up = place_after k l b in omega arith) (eq-or-lt_of_le h)
