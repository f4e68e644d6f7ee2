-- Laws of the lowest number below a bound that passes a test.
use Rattle.laws.proofs as own
use own.Base.{◌≡◌, refl, sym, ◌∙◌, Bool, true, false, cond, false≢true, ⊎_elim, ℕ, zero, suc, ◌≤◌, ◌<◌, not-suc-le-zero, arith, ltb, ltb-true, ltb-false}
use Rattle.laws.specs.Upto.{some_below, lowest}
use own.Tests.{true_or_false}
use own.Upto.{below_suc, some_at, some_none, some_agree}

module _ (p : ℕ → Bool) where
  -- what the lowest number is: 0 where none passes, or one more than the first that does
  pub data Lowest (n r : ℕ) : Type 0 where
    none_passes : r ≡ 0 → ((i : ℕ) → i < n → p i ≡ false) → Lowest n r
    first_passes : (i : ℕ) → r ≡ suc i → i < n → p i ≡ true → ((j : ℕ) → j < i → p j ≡ false) → Lowest n r

  pub lowest_is : (n : ℕ) → Lowest n (lowest p n)
  unfolding lowest some_below
  lowest_is zero = none_passes refl (λ i l. absurd (not-suc-le-zero l))
  lowest_is (suc n) = go (lowest_is n)
    where
      go : Lowest n (lowest p n) → Lowest (suc n) (cond (some_below p n) (lowest p n) (cond (p n) (suc n) 0))
      go (none_passes e none) =
          rw (some_none p n none)
          (true_or_false (p n)
          (λ q. rw q (first_passes n refl (omega arith) q none))
          (λ q. rw q (none_passes refl (λ i l. ⊎_elim (λ s. rw s q) (none i) (below_suc l)))))
      go (first_passes i e l q before) = rw (some_at p n i l q) (first_passes i e (omega arith) q before)

  -- the end of a loop that found the first number that passes
  pub lowest_at_lem : (n i : ℕ) → i < n → p i ≡ true → ((j : ℕ) → j < i → p j ≡ false) → lowest p n ≡ suc i
  lowest_at_lem n i l e before = go (lowest_is n)
    where
      go : {r : ℕ} → Lowest n r → r ≡ suc i
      go (none_passes q none) = absurd (false≢true (sym (none i l) ∙ e))
      go (first_passes k q h f lower) =
          let up : k < i → ⊥ = λ b. false≢true (sym (before k b) ∙ f) in
          let down : i < k → ⊥ = λ b. false≢true (sym (lower i b) ∙ e) in
          omega arith

  -- the end of one that found none
  pub lowest_none : (n : ℕ) → ((i : ℕ) → i < n → p i ≡ false) → lowest p n ≡ 0
  lowest_none n none = go (lowest_is n)
    where
      go : {r : ℕ} → Lowest n r → r ≡ 0
      go (none_passes q _) = q
      go (first_passes k q h f lower) = absurd (false≢true (sym (none k h) ∙ f))

  -- tests that agree below n have the same lowest
  pub lowest_agree : (q : ℕ → Bool) (n : ℕ) → ((i : ℕ) → i < n → p i ≡ q i) → lowest p n ≡ lowest q n
  unfolding lowest
  lowest_agree q zero h = refl
  lowest_agree q (suc n) h =
      rw (some_agree p q n (λ i l. h i (omega arith)), lowest_agree q n (λ i l. h i (omega arith)), h n (omega arith))

-- a test that fails from n on has the lowest of one that it agrees with below n
pub lowest_within : (p q : ℕ → Bool) (n k : ℕ) → n ≤ k → ((i : ℕ) → i < n → p i ≡ q i) → ((i : ℕ) → n ≤ i → i < k → p i ≡ false)
    → lowest p k ≡ lowest q n
lowest_within p q n k few same past = go (lowest_is q n)
  where
    none : ((i : ℕ) → i < n → q i ≡ false) → (i : ℕ) → i < k → p i ≡ false
    none z i l = true_or_false (ltb i n) (λ b. let h = ltb-true i n b in same i h ∙ z i h) (λ b. past i (ltb-false i n b) l)

    go : {r : ℕ} → Lowest q n r → lowest p k ≡ r
    go (none_passes e z) = lowest_none p k (none z) ∙ sym e
    go (first_passes i e l t lower) =
        lowest_at_lem p k i (omega arith) (same i l ∙ t) (λ j b. same j (omega arith) ∙ lower j b) ∙ sym e
