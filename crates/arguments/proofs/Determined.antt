-- Two answers that meet the contract are equal.
use Rattle.laws.proofs.Base.{◌≡◌, sym, ◌∙◌, Bool, List, ℕ}
use Rattle.arguments.specs as defs
use defs.Paper.{asked_by}
use defs.Inner.{works}
use defs.declared.Asked.{Asked}

pub determined_asked_for : (count : ℕ) (first : List ℕ) (fewest most : ℕ) (a b : Asked) → a ≡ asked_by count first fewest most → b ≡ asked_by count first fewest most → a ≡ b
determined_asked_for count first fewest most a b p q = p ∙ sym q

pub determined_tell : (asked : Asked) (a b : Bool) → a ≡ works asked → b ≡ works asked → a ≡ b
determined_tell asked a b p q = p ∙ sym q
