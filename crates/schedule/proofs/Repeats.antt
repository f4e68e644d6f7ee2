-- Laws of repeats: what makes one false, and what does not.
use Rattle.laws.proofs.Base.{◌≡◌, refl, ap, ◌∙◌, Bool, true, false, or-true, List, ℕ, suc, ◌-◌, ◌<◌, arith, eqb, leb, eq-eqb, le-leb, lt-leb, eqb-false, leb-false}
use Rattle.schedule.specs.Paper.{octet_at, Told, first, again, optional, advised, told, is_first, false_in, false_repeat}

module _ (t : ℕ → Told) (i n : ℕ) (e : t i ≡ again n) where
  pub false_zero : n ≡ 0 → false_repeat t i ≡ true
  false_zero h = ap (false_in t i) e ∙ rw (eq-eqb n 0 h)

  pub false_late : i < n → false_repeat t i ≡ true
  false_late h = ap (false_in t i) e ∙ rw (le-leb (suc i) n h, or-true)

  pub false_other : is_first (t (n - 1)) ≡ false → false_repeat t i ≡ true
  false_other h = ap (false_in t i) e ∙ rw (h, or-true, or-true)

-- descriptions that agree up to slot e tell of the same false repeats
pub false_repeat_agree : (t u : ℕ → Told) (e i : ℕ) → ((j : ℕ) → j < e → t j ≡ u j) → i < e → false_repeat t i ≡ false_repeat u i
false_repeat_agree t u e i h l = ap (false_in t i) (h i l) ∙ go (u i)
  where
    named : (n : ℕ) (a b : Bool) → eqb n 0 ≡ a → leb (suc i) n ≡ b → false_in t i (again n) ≡ false_in u i (again n)
    named n true b p q = rw p
    named n false true p q = rw (p, q)
    named n false false p q =
        let some = eqb-false n 0 p in
        let low = leb-false (suc i) n q in
        let inside : n - 1 < e = omega arith in
        rw (p, q, h (n - 1) inside)

    go : (d : Told) → false_in t i d ≡ false_in u i d
    go (first x) = refl
    go (again n) = named n _ _ refl refl
    go optional = refl
    go advised = refl

-- what a description is, by its first octet n
module _ (m : List ℕ) (a n : ℕ) (e : n ≡ octet_at m a) where
  pub told_repeat : n < 64 → told m a ≡ again n
  told_repeat l = rw (← e, lt-leb 128 n (omega arith), le-leb n 63 (omega arith))
