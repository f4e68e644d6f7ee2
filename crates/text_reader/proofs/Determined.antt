-- Two answers that meet the contract of `text_reader` are equal, lent memory included.
use Rattle.laws.proofs.Base.{◌≡◌, sym, ap, ◌∙◌, List, ℕ}
use Rattle.std.specs.Prelude.{Result, Ok, Err}
use Rattle.refusals.specs.declared.Refusal.{Refusal}
use Rattle.refusals.proofs.Inverse.{number_of_injective, number_of_positive}
use Rattle.text.specs.Paper.{Reading, reading}
use Rattle.text_reader.specs as defs
use defs.Coded.{reading_of}

reading_injective : (r s : Result ℕ Refusal) (t u : List ℕ) → reading_of r t ≡ reading_of s u → (r ≡ s) × (t ≡ u)
reading_injective (Ok m) (Ok n) t u e = (ap (λ (w : Reading). Ok w.characters) e, ap (λ (w : Reading). w.text) e)
reading_injective (Ok m) (Err b) t u e = absurd (number_of_positive b (sym (ap (λ (w : Reading). w.number) e)))
reading_injective (Err a) (Ok n) t u e = absurd (number_of_positive a (ap (λ (w : Reading). w.number) e))
reading_injective (Err a) (Err b) t u e =
    (ap Err (number_of_injective a b (ap (λ (w : Reading). w.number) e)), ap (λ (w : Reading). w.text) e)

pub determined_read_text : (page : List ℕ) (received : ℕ) (text : List ℕ) (r s : Result ℕ Refusal) (t u : List ℕ)
    → reading_of r t ≡ reading page received text → reading_of s u ≡ reading page received text → (r ≡ s) × (t ≡ u)
determined_read_text page received text r s t u d e = reading_injective r s t u (d ∙ sym e)
