-- Laws of proper collectors: the turns and ends of the loop that looks at each page.
use Rattle.laws.proofs.Base.{◌≡◌, sym, ap, ◌∙◌, true, false, cond, not, and-true, and-false, List, ℕ, suc, ◌+◌, ◌≤◌, ◌<◌, add-one, arith, eqb, ltb, eqb-true, eqb-false, ltb-true, ltb-false, ne_eqb, le-leb, lt-leb, le-ltb, lt-ltb}
use Rattle.laws.specs.Upto.{some_below, count}
use Rattle.laws.proofs.Upto.{some_at, some_false, some_count, count_none, count_yes, count_no, count_stops}
use Rattle.laws.proofs.Tests.{true_or_false}
use Rattle.sizes.specs.Paper.{whole_blocks}
use Rattle.collector.specs.Paper.{total, received_of, held, missing, wrong, proper}
use Rattle.collector.specs.Inner.{pages_in}
use Rattle.collector.proofs.Places.{missing_rest}

module _ (c : List ℕ) where
  -- a page that is held past the total, or with other octets than can be received
  pub wrong_past : (i : ℕ) → (received_of c i ≡ 0 → ⊥) → total c ≤ i → wrong c i ≡ true
  wrong_past i some l = rw (ne_eqb (received_of c i) 0 some, le-ltb i (total c) l)

  pub wrong_received : (i : ℕ) → (received_of c i ≡ 0 → ⊥) → whole_blocks (received_of c i) ≡ false → wrong c i ≡ true
  wrong_received i some e = rw (ne_eqb (received_of c i) 0 some, e, and-false)

  -- a collector with one is not proper
  pub pages_wrong : (i : ℕ) → i < 15 → wrong c i ≡ true → 0 ≡ pages_in c
  unfolding pages_in proper
  pages_wrong i l e = rw (some_at (wrong c) 15 i l e)

  -- a turn of the loop, at a page that is held and at one that is missing
  module _ (i k : ℕ) (none : some_below (wrong c) i ≡ false) (counted : k ≡ count (held c) i) where
    pub turn_held : (received_of c i ≡ 0 → ⊥) → i < total c → whole_blocks (received_of c i) ≡ true
        → (some_below (wrong c) (i + 1) ≡ false) × (k + 1 ≡ count (held c) (i + 1))
    unfolding some_below
    turn_held some l e = (
      rw (add-one i, none, lt-ltb i (total c) l, e) (and-false (held c i)),
      rw (counted, count_yes (held c) i (ap not (ne_eqb (received_of c i) 0 some))),
    )

    pub turn_missing : received_of c i ≡ 0 → (some_below (wrong c) (i + 1) ≡ false) × (k ≡ count (held c) (i + 1))
    unfolding some_below
    turn_missing e = (rw (add-one i, none, e), rw (counted, count_no (held c) i (rw e)))

  -- the loop's end, where no page is wrong
  module _ (right : some_below (wrong c) 15 ≡ false) where
    pub pages_none : total c ≡ 0 → 1 ≡ pages_in c
    unfolding pages_in proper
    pages_none e = rw (right, e, count_none (held c))

    pub pages_over : 15 < total c → 0 ≡ pages_in c
    unfolding pages_in proper
    pages_over l = rw (right, ne_eqb (total c) 0 (omega arith), lt-leb (total c) 15 l)

    module _ (some : (total c ≡ 0 → ⊥)) (most : total c ≤ 15) where
      -- none is held past the total
      held_within : count (held c) 15 ≡ count (held c) (total c)
      held_within =
          count_stops (held c) (total c) 15 most
          (λ i l m.
          let past : wrong c i ≡ held c i = rw (le-ltb i (total c) l) (and-true (held c i)) in
          sym past ∙ some_false (wrong c) 15 i right m)

      pub pages_empty : 0 ≡ count (held c) 15 → 0 ≡ pages_in c
      unfolding pages_in proper
      pages_empty e =
          rw (right, ne_eqb (total c) 0 some, le-leb (total c) 15 most, some_count (held c) (total c), ← held_within, ← e)

      pub pages_whole : total c ≡ count (held c) 15 → 0 ≡ pages_in c
      unfolding pages_in proper
      pages_whole e =
          let rest = missing_rest c (total c) in
          let all : count (missing c) (total c) ≡ 0 = omega (arith, held_within) in
          rw (right, ne_eqb (total c) 0 some, le-leb (total c) 15 most, some_count (missing c) (total c), all, and-false)

      pub pages_some : (count (held c) 15 ≡ 0 → ⊥) → (count (held c) 15 ≡ total c → ⊥) → suc (count (held c) 15) ≡ pages_in c
      unfolding pages_in proper
      pages_some n w =
          let rest = missing_rest c (total c) in
          let within = held_within in
          rw (
            right,
            ne_eqb (total c) 0 some,
            le-leb (total c) 15 most,
            some_count (missing c) (total c),
            some_count (held c) (total c),
            ne_eqb (count (missing c) (total c)) 0 (λ e. w (omega arith)),
            ne_eqb (count (held c) (total c)) 0 (λ e. n (omega arith)),
          )
          (ap suc held_within)

-- what the tests behind the loop make of a total t and of k pages counted
abbrev pub told_of : ℕ → ℕ → ℕ
told_of t k = cond (eqb t 0) 1 (cond (ltb 15 t) 0 (cond (eqb k 0) 0 (cond (eqb k t) 0 (suc k))))

-- where no page is wrong, that is how many a proper collector holds
told_held : (c : List ℕ) (k : ℕ) → some_below (wrong c) 15 ≡ false → k ≡ count (held c) 15 → told_of (total c) k ≡ pages_in c
told_held c k right e =
    true_or_false (eqb (total c) 0)
    (λ a. rw a (pages_none c right (eqb-true (total c) 0 a)))
    (λ a.
    let some = eqb-false (total c) 0 a in
    rw a
    (true_or_false (ltb 15 (total c))
    (λ b. rw b (pages_over c right (ltb-true 15 (total c) b)))
    (λ b.
    let most = ltb-false 15 (total c) b in
    rw b
    (true_or_false (eqb k 0)
    (λ d. rw d (pages_empty c right some most (sym (eqb-true k 0 d) ∙ e)))
    (λ d.
    rw d
    (true_or_false (eqb k (total c))
    (λ f. rw f (pages_whole c right some most (sym (eqb-true k (total c) f) ∙ e)))
    (λ f.
    rw (f, e)
    (pages_some c right some most
    (λ z. eqb-false k 0 d (e ∙ z)) (λ z. eqb-false k (total c) f (e ∙ z))))))))))

-- at the loop's end all fifteen pages are looked at
pub told_at : (c : List ℕ) (k i : ℕ) → i ≤ 15 → some_below (wrong c) i ≡ false → k ≡ count (held c) i → 15 ≤ i → told_of (total c) k ≡ pages_in c
told_at c k i low right e high =
    let q : i ≡ 15 = omega arith in
    told_held c k (rw q at right) (rw q at e)
