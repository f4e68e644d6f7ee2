-- Answers that meet a contract of `refusals` are equal.
use Rattle.laws.proofs.Base.{◌≡◌, sym, ◌∙◌, ℕ}
use Rattle.refusals.specs as defs
use defs.declared.Refusal.{Refusal}
use defs.Number.{number_of}

pub determined_number : (refusal : Refusal) (r s : ℕ) → r ≡ number_of refusal → s ≡ number_of refusal → r ≡ s
determined_number refusal r s p q = p ∙ sym q
