-- Two answers that meet a contract are equal. What the system gives no contract fixes.
use Rattle.laws.proofs.Base.{◌≡◌, sym, ◌∙◌, List, ℕ, ◌+◌, min}
use Rattle.block.specs.Paper.{start}
use Rattle.firmware.specs.Paper.{lent}
use Rattle.logs.specs.Inner.{moved_on}

pub determined_started : (a b : List ℕ) → a ≡ lent start → b ≡ lent start → a ≡ b
determined_started a b p q = p ∙ sym q

pub determined_moved_on : (number : ℕ) (chunk : List ℕ) (a b : ℕ) → a ≡ moved_on number chunk → b ≡ moved_on number chunk → a ≡ b
determined_moved_on number chunk a b p q = p ∙ sym q

pub determined_piece_end : (at end a b : ℕ) → a ≡ min (at + 23) end → b ≡ min (at + 23) end → a ≡ b
determined_piece_end at end a b p q = p ∙ sym q
