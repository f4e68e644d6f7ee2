-- Two answers that meet a public contract of this crate are equal, lent memory included.
use Rattle.std.specs.Prelude.{Result, Ok, Err}
use Rattle.laws.proofs.Base.{◌≡◌, sym, ap, ◌∙◌, List, ℕ}
use Rattle.refusals.specs.declared.Refusal.{Refusal}
use Rattle.refusals.proofs.Inverse.{number_of_injective, number_of_positive}
use Rattle.schedule.specs.declared.Slot.{Slot}
use Rattle.sender_message.specs as defs
use defs.Paper.{MessageLeft, write_message}
use defs.Coded.{writing_of, shown_in}

-- an answer and the output that it leaves are told by what they are in the paper's terms
pub writing_injective : (r s : Result ℕ Refusal) (o q : List ℕ) → writing_of r o ≡ writing_of s q → (r ≡ s) × (o ≡ q)
writing_injective (Ok u) (Ok v) o q e = (ap (λ (w : MessageLeft). Ok w.used) e, ap (λ (w : MessageLeft). w.output) e)
writing_injective (Ok u) (Err b) o q e = absurd (number_of_positive b (sym (ap (λ (w : MessageLeft). w.number) e)))
writing_injective (Err a) (Ok v) o q e = absurd (number_of_positive a (ap (λ (w : MessageLeft). w.number) e))
writing_injective (Err a) (Err b) o q e =
    (ap Err (number_of_injective a b (ap (λ (w : MessageLeft). w.number) e)), ap (λ (w : MessageLeft). w.output) e)

pub determined_write_message : (slots : List Slot) (count begin : ℕ) (out : List ℕ) (r s : Result ℕ Refusal) (o q : List ℕ)
    → writing_of r o ≡ write_message begin (shown_in slots) count out
    → writing_of s q ≡ write_message begin (shown_in slots) count out → (r ≡ s) × (o ≡ q)
determined_write_message slots count begin out r s o q d e = writing_injective r s o q (d ∙ sym e)
