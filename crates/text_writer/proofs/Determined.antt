-- Two answers that meet the contract of `text_writer` are equal, lent memory included.
use Rattle.laws.proofs.Base.{◌≡◌, sym, ap, ◌∙◌, List, ℕ}
use Rattle.std.specs.Prelude.{Result, Ok, Err}
use Rattle.refusals.specs.declared.Refusal.{Refusal}
use Rattle.refusals.proofs.Inverse.{number_of_injective, number_of_positive}
use Rattle.page.specs.declared.Serial.{Serial}
use Rattle.page.specs.declared.MessageId.{MessageId}
use Rattle.text.specs.Paper.{PageLeft, written_page}
use Rattle.text_writer.specs as defs
use defs.Coded.{heading_with, writing_of}

writing_injective : (r s : Result ℕ Refusal) (p q : List ℕ) → writing_of r p ≡ writing_of s q → (r ≡ s) × (p ≡ q)
writing_injective (Ok u) (Ok v) p q e = (ap (λ (w : PageLeft). Ok w.used) e, ap (λ (w : PageLeft). w.page) e)
writing_injective (Ok u) (Err b) p q e = absurd (number_of_positive b (sym (ap (λ (w : PageLeft). w.number) e)))
writing_injective (Err a) (Ok v) p q e = absurd (number_of_positive a (ap (λ (w : PageLeft). w.number) e))
writing_injective (Err a) (Err b) p q e =
    (ap Err (number_of_injective a b (ap (λ (w : PageLeft). w.number) e)), ap (λ (w : PageLeft). w.page) e)

pub determined_write_text : (serial : Serial) (id : MessageId) (scheme parameter : ℕ) (text page : List ℕ) (r s : Result ℕ Refusal) (p q : List ℕ)
    → writing_of r p ≡ written_page (heading_with serial id scheme parameter) text page
    → writing_of s q ≡ written_page (heading_with serial id scheme parameter) text page → (r ≡ s) × (p ≡ q)
determined_write_text serial id scheme parameter text page r s p q d e = writing_injective r s p q (d ∙ sym e)
