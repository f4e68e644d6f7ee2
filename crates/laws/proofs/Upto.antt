-- Laws of the numbers below a bound that pass a test, and of what a function gives at each.
use Rattle.laws.proofs as own
use own.Base.{◌≡◌, refl, sym, ap, ◌∙◌, Bool, true, false, cond, not, false≢true, or-true, or-false, [], ◌∷◌, ◌⊎◌, ⊎_elim, ℕ, zero, suc, ◌+◌, ◌≤◌, ◌<◌}
use own.Base.{List, ◌++◌, take, set, take-suc-set, take_all, add-zero, eqb, ne_eqb, eq-or-lt_of_le, le_of_suc-le-suc, not-suc-le-zero, add-one, arith, length, get_or, length-append, list_get_d_append, get_or_at}
use Rattle.laws.specs.Upto.{some_below, count, picked, each}
use own.Snoc.{length_snoc}
use own.Tests.{true_or_false, either}

-- a number below one more is the last one, or below it
pub below_suc : {i n : ℕ} → i < suc n → (i ≡ n) ⊎ (i < n)
below_suc h = eq-or-lt_of_le (le_of_suc-le-suc h)

-- a number below n that passes the test
pub record Passing (p : ℕ → Bool) (n : ℕ) : Type 0 where
  pub at : ℕ
  pub below : at < n
  pub passes : p at ≡ true

module _ (p : ℕ → Bool) where
  pub some_none : (n : ℕ) → ((i : ℕ) → i < n → p i ≡ false) → some_below p n ≡ false
  unfolding some_below
  some_none zero h = refl
  some_none (suc n) h = rw (some_none n (λ i l. h i (omega arith)), h n (omega arith))

  pub some_at : (n i : ℕ) → i < n → p i ≡ true → some_below p n ≡ true
  unfolding some_below
  some_at zero i l e = absurd (not-suc-le-zero l)
  some_at (suc n) i l e = ⊎_elim (λ q. rw (← q, e) (or-true (some_below p i))) (λ b. rw (some_at n i b e)) (below_suc l)

  pub some_false : (n i : ℕ) → some_below p n ≡ false → i < n → p i ≡ false
  some_false n i e l = true_or_false (p i) (λ q. absurd (false≢true (sym e ∙ some_at n i l q))) (λ q. q)

  -- tests that agree below n have the same verdict
  pub some_agree : (q : ℕ → Bool) (n : ℕ) → ((i : ℕ) → i < n → p i ≡ q i) → some_below p n ≡ some_below q n
  unfolding some_below
  some_agree q zero h = refl
  some_agree q (suc n) h = rw (some_agree q n (λ i l. h i (omega arith)), h n (omega arith))

  pub some_passing : (n : ℕ) → some_below p n ≡ true → Passing p n
  unfolding some_below
  some_passing zero e = absurd (false≢true e)
  some_passing (suc n) e =
      ⊎_elim
      (λ q. let w = some_passing n q in record { at = w.at; below = omega arith; passes = w.passes })
      (λ q. record { at = n; below = omega arith; passes = q })
      (either (some_below p n) (p n) e)

  pub count_none : count p 0 ≡ 0
  unfolding count
  count_none = refl

  pub count_yes : (n : ℕ) → p n ≡ true → count p (n + 1) ≡ count p n + 1
  unfolding count
  count_yes n e = rw (add-one, e)

  pub count_no : (n : ℕ) → p n ≡ false → count p (n + 1) ≡ count p n
  unfolding count
  count_no n e = rw (add-one, e) (omega arith)

  pub count_le : (n : ℕ) → count p n ≤ n
  unfolding count
  count_le zero = omega arith
  count_le (suc n) = let h = count_le n in true_or_false (p n) (λ e. rw e (omega arith)) (λ e. rw e (omega arith))

  -- the count grows past a number that passes
  pub count_grows : (n i : ℕ) → i < n → p i ≡ true → count p i < count p n
  unfolding count
  count_grows zero i l e = absurd (not-suc-le-zero l)
  count_grows (suc n) i l e = ⊎_elim (λ q. rw (← q, e) (omega arith)) (λ b. let h = count_grows n i b e in omega arith) (below_suc l)

  -- a number that passes is known by how many pass before it
  pub picked_length : (n : ℕ) → length (picked p n) ≡ count p n
  unfolding picked count
  picked_length zero = refl
  picked_length (suc n) =
      let h = picked_length n in
      true_or_false (p n) (λ e. rw (e, length-append) (omega arith)) (λ e. rw (e, length-append) (omega arith))

  -- tests that agree below n pick the same numbers
  pub picked_agree : (q : ℕ → Bool) (n : ℕ) → ((i : ℕ) → i < n → p i ≡ q i) → picked p n ≡ picked q n
  unfolding picked
  picked_agree q zero h = refl
  picked_agree q (suc n) h = rw (picked_agree q n (λ i l. h i (omega arith)), h n (omega arith))

  pub picked_at : (n i : ℕ) → i < n → p i ≡ true → get_or (picked p n) (count p i) 0 ≡ i
  unfolding picked
  picked_at zero i l e = absurd (not-suc-le-zero l)
  picked_at (suc n) i l e =
      ⊎_elim
      (λ q. rw (← q, e) (get_or_at (picked p i) i [] 0 (count p i) (picked_length i)))
      (λ b.
      let h : count p i < length (picked p n) = omega (arith, picked_length n, count_grows n i b e) in
      rw (list_get_d_append (picked p n) (cond (p n) (n ∷ []) []) 0 (count p i) h) (picked_at n i b e))
      (below_suc l)

  -- tests that agree below n count the same
  pub count_agree : (q : ℕ → Bool) (n : ℕ) → ((i : ℕ) → i < n → q i ≡ p i) → count q n ≡ count p n
  unfolding count
  count_agree q zero h = refl
  count_agree q (suc n) h = rw (count_agree q n (λ i l. h i (omega arith)), h n (omega arith))

  -- some number passes exactly where the count is not 0
  pub some_count : (n : ℕ) → some_below p n ≡ not (eqb (count p n) 0)
  unfolding some_below count
  some_count zero = refl
  some_count (suc n) =
      true_or_false (p n)
      (λ e. rw (e, or-true, ne_eqb (count p n + 1) 0 (omega arith)))
      (λ e. rw (e, or-false, add-zero) (some_count n))

  -- where none passes from t on, the count is that up to t
  pub count_stops : (t n : ℕ) → t ≤ n → ((i : ℕ) → t ≤ i → i < n → p i ≡ false) → count p n ≡ count p t
  unfolding count
  count_stops t zero l h = let e : t ≡ 0 = omega arith in rw e
  count_stops t (suc n) l h =
      ⊎_elim
      (λ e. rw e)
      (λ b. rw (h n (omega arith) (omega arith), add-zero) (count_stops t n (omega arith) (λ i a c. h i a (omega arith))))
      (eq-or-lt_of_le l)

  -- a test that passes one number more counts one more
  pub count_more : (q : ℕ → Bool) (n i : ℕ) → i < n → p i ≡ false → q i ≡ true → ((j : ℕ) → (j ≡ i → ⊥) → q j ≡ p j) → count q n ≡ count p n + 1
  unfolding count
  count_more q zero i l e f h = absurd (not-suc-le-zero l)
  count_more q (suc n) i l e f h =
      ⊎_elim
      (λ s. rw (← s, e, f, count_agree q i (λ j b. h j (omega arith))) (omega arith))
      (λ b. rw (h n (omega arith), count_more q n i b e f h) (omega arith))
      (below_suc l)

-- the k-th number that passes, counted from 0
pub record Placed (p : ℕ → Bool) (n k : ℕ) : Type 0 where
  pub at : ℕ
  pub below : at < n
  pub passes : p at ≡ true
  pub before : count p at ≡ k

-- as many pass as are counted
pub count_onto : (p : ℕ → Bool) (n k : ℕ) → k < count p n → Placed p n k
unfolding count
count_onto p zero k l = absurd (not-suc-le-zero l)
count_onto p (suc n) k l =
    true_or_false (p n)
    (λ e.
    let last : k < suc (count p n) = omega (arith, rw e at l) in
    ⊎_elim (λ q. record { at = n; below = omega arith; passes = e; before = sym q }) (λ h. later (count_onto p n k h)) (below_suc last))
    (λ e. later (count_onto p n k (omega (arith, rw e at l))))
  where
    later : Placed p n k → Placed p (suc n) k
    later w = record { at = w.at; below = omega arith; passes = w.passes; before = w.before }

-- those that fail the test make up the rest
pub count_rest : (p q : ℕ → Bool) → ((i : ℕ) → q i ≡ not (p i)) → (n : ℕ) → count p n + count q n ≡ n
unfolding count
count_rest p q h zero = refl
count_rest p q h (suc n) =
    let r = count_rest p q h n in
    true_or_false (p n) (λ e. rw (h n, e) (omega arith)) (λ e. rw (h n, e) (omega arith))

module _ {A : Type 0} (f : ℕ → A) where
  pub each_length : (n : ℕ) → length (each f n) ≡ n
  unfolding each
  each_length zero = refl
  each_length (suc n) = length_snoc (each f n) (f n) ∙ ap suc (each_length n)

  pub each_at : (n i : ℕ) (d : A) → i < n → get_or (each f n) i d ≡ f i
  unfolding each
  each_at zero i d l = absurd (not-suc-le-zero l)
  each_at (suc n) i d l =
      ⊎_elim
      (λ q. rw (← q) (get_or_at (each f i) (f i) [] d i (each_length i)))
      (λ b.
      let h : i < length (each f n) = omega (arith, each_length n) in
      rw (list_get_d_append (each f n) (f n ∷ []) d i h) (each_at n i d b))
      (below_suc l)

  -- functions that agree below n give the same
  pub each_agree : (g : ℕ → A) (n : ℕ) → ((i : ℕ) → i < n → f i ≡ g i) → each f n ≡ each g n
  unfolding each
  each_agree g zero h = refl
  each_agree g (suc n) h = rw (each_agree g n (λ i l. h i (omega arith)), h n (omega arith))

  -- a loop that puts what a function gives at each place of a list: its start, a turn, and its end
  pub each_start : (o : List A) → take 0 o ≡ each f 0
  unfolding each
  each_start o = refl

  module _ (o : List A) (i : ℕ) (done : take i o ≡ each f i) where
    pub each_turn : (x : A) → x ≡ f i → i < length o → take (i + 1) (set o i x) ≡ each f (i + 1)
    unfolding each
    each_turn x q l = rw add-one (take-suc-set o i x l ∙ (λ j. done j ++ (q j ∷ [])))

    pub each_end : (n : ℕ) → i ≡ n → length o ≡ n → o ≡ each f n
    each_end n q l = sym (take_all i o (omega arith)) ∙ done ∙ ap (each f) q
