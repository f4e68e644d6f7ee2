-- What it means that a contract leaves no room for two answers.
use Rattle.std.specs.Prelude.{◌≡◌}

-- 01 What the contracts have to settle: two answers that meet a contract are equal
abbrev pub Determined : {A : Type 0} → (A → Type 0) → Type 0
Determined {A} P = (r s : A) → P r → P s → r ≡ s
