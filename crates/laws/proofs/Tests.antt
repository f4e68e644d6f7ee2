-- Laws of tests: both ways that one can go, joined ones, equal ones, and one number below another.
use Rattle.laws.proofs.Base.{◌≡◌, refl, sym, ◌⊎◌, inl, inr, Bool, true, false, ◌&&◌, ◌||◌, bool_beq, false≢true, true≢false}
use Rattle.laws.proofs.Base.{ℕ, ◌+◌, ◌≤◌, ◌<◌, arith, leb, leb-true, leb-false, ltb, lt-ltb, le-ltb, ltb-true, ltb-false}

-- what follows where a test holds, and where it doesn't
pub true_or_false : {C : Type 0} (b : Bool) → (b ≡ true → C) → (b ≡ false → C) → C
true_or_false true f g = f refl
true_or_false false f g = g refl

-- what follows where a number is at most another, and where that is below it
pub le_or_lt : {C : Type 0} (a b : ℕ) → (a ≤ b → C) → (b < a → C) → C
le_or_lt a b f g = true_or_false (leb a b) (λ e. f (leb-true a b e)) (λ e. g (leb-false a b e))

-- tests that are found equal
pub beq_true : (a b : Bool) → bool_beq a b ≡ true → a ≡ b
beq_true true true e = refl
beq_true true false e = sym e
beq_true false true e = e
beq_true false false e = refl

pub beq_refl : (a : Bool) → bool_beq a a ≡ true
beq_refl true = refl
beq_refl false = refl

-- a conjunction that holds, part by part
pub both : (a b : Bool) → (a && b) ≡ true → (a ≡ true) × (b ≡ true)
both true b e = (refl, e)
both false b e = absurd (false≢true e)

-- a disjunction that does not hold, part by part
pub neither : (a b : Bool) → (a || b) ≡ false → (a ≡ false) × (b ≡ false)
neither true b e = absurd (true≢false e)
neither false b e = (refl, e)

-- a disjunction that holds, by one of its parts
pub either : (a b : Bool) → (a || b) ≡ true → (a ≡ true) ⊎ (b ≡ true)
either true b e = inl refl
either false b e = inr e

-- whether i is below j + 1, where it is not j
pub below_other : (i j : ℕ) → (i ≡ j → ⊥) → ltb i (j + 1) ≡ ltb i j
below_other i j h =
    true_or_false (ltb i j)
    (λ e. let l : i < j + 1 = omega (arith, ltb-true i j e) in rw (e, lt-ltb i (j + 1) l))
    (λ e. let l : j + 1 ≤ i = omega (arith, ltb-false i j e) in rw (e, le-ltb i (j + 1) l))
