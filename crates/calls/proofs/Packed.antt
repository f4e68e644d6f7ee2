-- Laws of two numbers in one.
use Rattle.laws.proofs.Base.{◌≡◌, sym, ap, ◌∙◌, Bool, true, false, List, ℕ, ◌*◌, ◌≤◌, ◌<◌, zero-add, add-zero, arith, refl}
use mir.Val.{bool_byte}
use Rattle.calls.specs as defs
use defs.Paper.{in_one, left_with, bit_of}
use defs.Claims.{IsLeft, TakenApart}

-- they come apart again
pub apart : (n other : ℕ) → n < 256 → TakenApart (in_one n other) n other
apart n other l = (omega arith, omega arith)

-- a number alone, and another that goes with 0
pub left_number : {n r : ℕ} {m : List ℕ} → r ≡ n → IsLeft r m (left_with n 0 m)
left_number {n} {r} {m} e = ap (λ (x : ℕ). record { returned = x; memory = m }) (e ∙ sym (add-zero n))

pub left_done : (other : ℕ) {m : List ℕ} → IsLeft (256 * other) m (left_with 0 other m)
left_done other {m} = ap (λ (x : ℕ). record { returned = x; memory = m }) (sym (zero-add (256 * other)))

-- a bool as a number
pub bit_byte : (b : Bool) → bool_byte b ≡ bit_of b
bit_byte true = refl
bit_byte false = refl

pub bit_most : (b : Bool) → bit_of b ≤ 1
bit_most true = omega arith
bit_most false = omega arith

pub bit_small : (b : Bool) → bool_byte b ≤ 1
bit_small b = omega (arith, bit_byte b, bit_most b)
