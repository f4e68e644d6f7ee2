-- What is claimed of each call for C: its contract settles what it leaves, and what it packs comes out again.
use Rattle.std.specs.Prelude.{◌≡◌, List, ℕ, ◌/◌, ◌%◌}
use Rattle.calls.specs.Paper.{CallLeft}

-- DECISIONS, Several numbers in one: a call that returns r, with memory x afterwards, leaves l
abbrev pub IsLeft : ℕ → List ℕ → CallLeft → Type 0
IsLeft r x l = record { returned = r; memory = x } ≡ l

-- 01 What the contracts have to settle: calls that leave l return the same number and leave the same memory
abbrev pub Settles : CallLeft → Type 0
Settles l = (r s : ℕ) (x y : List ℕ) → IsLeft r x l → IsLeft s y l → (r ≡ s) × (x ≡ y)

-- 01 What the contracts have to settle: calls that return n return the same number
abbrev pub SettlesNumber : ℕ → Type 0
SettlesNumber n = (r s : ℕ) → r ≡ n → s ≡ n → r ≡ s

-- DECISIONS, Several numbers in one: the two numbers that the header's macros take out of r
abbrev pub TakenApart : ℕ → ℕ → ℕ → Type 0
TakenApart r number other = (r % 256 ≡ number) × (r / 256 ≡ other)
