-- What the inner functions ask and promise.
use Rattle.std.specs.Prelude.{ℕ, ◌-◌, ◌≤◌, ◌<◌, ◌≡◌, Bool, false, List, ◌∷◌, eqb, length, get_or, take, drop}
use Rattle.laws.specs.Search.{some}
use Rattle.alphabet.specs.Paper.{escape}
use Rattle.text.specs.Paper.{cr, decoded, shown, points}
use Rattle.text_reader.specs.declared.reading.Decoded.{Decoded}

-- 1B is among some septets
abbrev pub escaping : List ℕ → Bool
escaping s = some (λ (x : ℕ). eqb x escape) s

-- 02 No. 5: x is what the septets from place i on begin with
pub record Next (s : List ℕ) (i : ℕ) (x : Decoded) : Type 0 where
  pub reads : decoded false (drop i s) ≡ record { point = x.point; escaped = x.escaped } ∷ decoded false (drop x.after s)
  pub further : i < x.after
  pub within : x.after ≤ length s

-- the first n of some code points are left when the CRs among those from floor to end are dropped
pub record Remain (t : List ℕ) (floor end n : ℕ) : Type 0 where
  pub low : floor ≤ n
  pub high : n ≤ end
  pub dropped : (k : ℕ) → n ≤ k → k < end → get_or t k 0 ≡ cr
  pub stops : floor < n → get_or t (n - 1) 0 ≡ cr → ⊥

-- 02 No. 5: the first n places of t are the text that septets s are read as
pub record Read (s : List ℕ) (n : ℕ) (t : List ℕ) : Type 0 where
  pub count : n ≡ length (shown s)
  pub front : take n t ≡ points (shown s)
