-- Two answers that meet the contract of `copy` are equal.
use Rattle.std.proofs.Common.{◌≡◌, sym, ◌∙◌, List, ℕ}

pub determined_copy : (from x y : List ℕ) → x ≡ from → y ≡ from → x ≡ y
determined_copy from x y d e = d ∙ sym e
