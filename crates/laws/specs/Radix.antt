-- A number and its digits to a base, lowest first: packing is a change of base.
use Rattle.std.specs.Prelude.{ℕ, zero, suc, ◌+◌, ◌*◌, ◌/◌, ◌%◌, ◌^◌, ◌<◌, List, [], ◌∷◌, get_or}

-- the number whose digits to base b, lowest first, are given
unfoldable pub value : ℕ → List ℕ → ℕ
value b [] = 0
value b (x ∷ xs) = x + b * value b xs

-- the n lowest digits of v to base b, lowest first
unfoldable pub digits : ℕ → ℕ → ℕ → List ℕ
digits b zero v = []
digits b (suc n) v = v % b ∷ digits b n (v / b)

-- every entry is below b; past the end of a list stand zeros
abbrev pub Below : ℕ → List ℕ → Type 0
Below b xs = (i : ℕ) → get_or xs i 0 < b

-- bit m of a list whose entries have q bits, low bits first
abbrev pub bit : ℕ → List ℕ → ℕ → ℕ
bit q xs m = get_or xs (m / q) 0 / 2 ^ (m % q) % 2
