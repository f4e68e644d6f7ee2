-- Answers that meet a contract of `sizes` are equal.
use Rattle.laws.proofs.Base.{◌≡◌, sym, ◌∙◌, Bool, ℕ}
use Rattle.sizes.specs.Paper.{whole_blocks}

pub determined_whole_blocks : (received : ℕ) (r s : Bool) → r ≡ whole_blocks received → s ≡ whole_blocks received → r ≡ s
determined_whole_blocks received r s p q = p ∙ sym q
