-- Answers that meet a contract of `schedule_given` are equal.
use Rattle.laws.proofs.Base.{◌≡◌, refl, sym, ap, ◌∙◌, List, ℕ}
use Rattle.std.specs.Prelude.{Option, None, Some, Result, Ok, Err}
use Rattle.refusals.specs.declared.Refusal.{Refusal}
use Rattle.refusals.proofs.Inverse.{refusal_of, refusal_of_number_of}
use Rattle.schedule.specs.Paper.{GivenSlot, next, no_more, refusal, given}
use Rattle.schedule.proofs.Determined.{slot_from, slot_from_shown_of}
use Rattle.schedule_given.specs as defs
use defs.declared.Numbered.{Numbered}
use defs.Coded.{given_of}

-- the code's answer by the paper's
abbrev given_from : GivenSlot → Result (Option Numbered) Refusal
given_from (next n s) = Ok (Some (record { number = n; slot = slot_from s }))
given_from no_more = Ok None
given_from (refusal n) = Err (refusal_of n)

given_from_given_of : (g : Result (Option Numbered) Refusal) → given_from (given_of g) ≡ g
given_from_given_of (Ok (Some x)) = λ i. Ok (Some (record { number = x.number; slot = slot_from_shown_of x.slot i }))
given_from_given_of (Ok None) = refl
given_from_given_of (Err r) = ap Err (refusal_of_number_of r)

pub determined_description_at : (m : List ℕ) (received place : ℕ) (r s : Result (Option Numbered) Refusal)
    → given_of r ≡ given m received place → given_of s ≡ given m received place → r ≡ s
determined_description_at m received place r s a b = sym (given_from_given_of r) ∙ ap given_from (a ∙ sym b) ∙ given_from_given_of s
