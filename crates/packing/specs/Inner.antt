-- What unpacking leaves in the memory that it is lent, and what its inner functions ask.
use Rattle.std.specs.Prelude.{ℕ, ◌+◌, ◌/◌, ◌^◌, ◌≤◌, cond, List, eqb, length}
use Rattle.laws.specs.Radix.{Below, value, digits}

-- digits to base b whose number is a machine word
pub record Word (b : ℕ) (xs : List ℕ) : Type 0 where
  pub below : Below b xs
  pub room : b ^ length xs ≤ 2 ^ 64

-- 01 Page and text: the whole septets of some octets, where there is room for just these; other room s stays as it was
unfoldable pub unpacked_into : List ℕ → List ℕ → List ℕ
unpacked_into o s = cond (eqb (length s) (length o + length o / 7)) (digits 128 (length s) (value 256 o)) s
