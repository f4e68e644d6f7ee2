-- Refusals in order: how document 01's "Order" paragraph is written down.
use Rattle.std.specs.Prelude.{ℕ, Bool, cond, not, List, [], ◌∷◌, eqb}

-- 01 Order: a list of tests, each with its number; the first that holds answers by its number, and where none holds the answer is x
abbrev pub ruled : {A : Type 0} → (ℕ → A) → List (Bool × ℕ) → A → A
ruled by [] x = x
ruled by (t ∷ ts) x = cond t.0 (by t.1) (ruled by ts x)

-- 01 Order: the answer of another call as a test: it refuses by its number unless that is 0
abbrev pub unless0 : ℕ → Bool × ℕ
unless0 n = (not (eqb n 0), n)
