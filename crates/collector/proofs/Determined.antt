-- Calls that meet a contract of `collector` answer the same and leave the same memory.
use Rattle.std.specs.Prelude.{Result, Ok, Err}
use Rattle.laws.proofs.Base.{◌≡◌, sym, ap, ◌∙◌, List, ℕ, arith}
use Rattle.refusals.proofs.Inverse.{number_of_injective, number_of_positive, not_listed}
use Rattle.refusals.specs.declared.Refusal.{Refusal}
use Rattle.collector.specs as defs
use defs.Paper.{Left, Started, CollectLeft, collected, start_call, collect_call}
use defs.Coded.{number_of_answer, pages_of_answer}
use defs.declared.Answer.{Answer}
use defs.declared.Answer.TheVariants.{HandedOut, Kept}

pub determined_cb_start_collector : (m : List ℕ) (r s : ℕ) (x y : List ℕ)
    → record { number = r; collector = x } ≡ start_call m → record { number = s; collector = y } ≡ start_call m → (r ≡ s) × (x ≡ y)
determined_cb_start_collector m r s x y a b =
    let e = a ∙ sym b in
    (ap (λ (l : Started). l.number) e, ap (λ (l : Started). l.collector) e)

pub determined_cb_collect : (m p : List ℕ) (n : ℕ) (o : List ℕ) (r s : ℕ) (x y v w : List ℕ)
    → record { returned = r; collector = x; output = v } ≡ collect_call m p n o → record { returned = s; collector = y; output = w } ≡ collect_call m p n o
    → (r ≡ s) × (x ≡ y) × (v ≡ w)
determined_cb_collect m p n o r s x y v w a b =
    let e = a ∙ sym b in
    (ap (λ (l : CollectLeft). l.returned) e, ap (λ (l : CollectLeft). l.collector) e, ap (λ (l : CollectLeft). l.output) e)

-- an answer is known by its number and the pages handed out
answer_injective : (r s : Result Answer Refusal) → number_of_answer r ≡ number_of_answer s → pages_of_answer r ≡ pages_of_answer s → r ≡ s
answer_injective (Ok (HandedOut a)) (Ok (HandedOut b)) e f = ap (λ (n : ℕ). Ok (HandedOut n)) f
answer_injective (Ok (HandedOut a)) (Ok Kept) e f = absurd (omega arith)
answer_injective (Ok (HandedOut a)) (Err t) e f = absurd (number_of_positive t (sym e))
answer_injective (Ok Kept) (Ok (HandedOut b)) e f = absurd (omega arith)
answer_injective (Ok Kept) (Ok Kept) e f = cc
answer_injective (Ok Kept) (Err t) e f = absurd (not_listed t 1 (omega arith) (sym e))
answer_injective (Err t) (Ok (HandedOut b)) e f = absurd (number_of_positive t e)
answer_injective (Err t) (Ok Kept) e f = absurd (not_listed t 1 (omega arith) e)
answer_injective (Err t) (Err u) e f = ap Err (number_of_injective t u e)

pub determined_collect : (m p : List ℕ) (n : ℕ) (o : List ℕ) (r s : Result Answer Refusal) (x y v w : List ℕ)
    → record { number = number_of_answer r; pages = pages_of_answer r; collector = x; output = v } ≡ collected m p n o
    → record { number = number_of_answer s; pages = pages_of_answer s; collector = y; output = w } ≡ collected m p n o
    → (r ≡ s) × (x ≡ y) × (v ≡ w)
determined_collect m p n o r s x y v w a b =
    let e = a ∙ sym b in (
      answer_injective r s (ap (λ (l : Left). l.number) e) (ap (λ (l : Left). l.pages) e),
      ap (λ (l : Left). l.collector) e,
      ap (λ (l : Left). l.output) e,
    )
