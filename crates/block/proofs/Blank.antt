-- Octets that are all 2B.
use Rattle.laws.proofs.Base.{◌≡◌, refl, ap, true, List, [], ◌∷◌, ℕ, length, replicate, eqb, eqb-true}
use Rattle.laws.proofs.Tests.{both}
use Rattle.block.specs.Paper.{all_blank}

-- octets that are all 2B are a repeat of it
pub all_blank_is : (xs : List ℕ) → all_blank xs ≡ true → xs ≡ replicate (length xs) 0x2b
all_blank_is [] e = refl
all_blank_is (x ∷ xs) e =
    let w = both (eqb x 0x2b) (all_blank xs) e in
    rw (eqb-true x 0x2b w.0) (ap (◌∷◌ 0x2b) (all_blank_is xs w.1))
