-- Answers that meet a contract of `descriptions` are equal.
use denote.Ref.{Bor}
use Rattle.laws.proofs.Base.{◌≡◌, refl, sym, ap, ◌∙◌, cond, List, ℕ, eqb, ne_eqb}
use Rattle.laws.proofs.Map.{map_injective}
use Rattle.std.specs.Prelude.{Option, Result, Ok, Err}
use Rattle.refusals.specs.declared.Refusal.{Refusal}
use Rattle.refusals.specs.Number.{number_of}
use Rattle.refusals.proofs.Inverse.{refusal_of, refusal_of_number_of, number_of_positive}
use Rattle.schedule_given.specs.declared.Numbered.{Numbered as NumberedCode}
use Rattle.schedule.proofs.Determined.{slot_from, slot_from_shown_of}
use Rattle.schedule_given.proofs.Determined.{determined_description_at}
use Rattle.descriptions.specs as defs
use defs.declared.Ordered.{Ordered as OrderedCode}
use defs.declared.Descriptions.{Descriptions}
use defs.declared.Stepped.{Stepped as SteppedCode}
use defs.Paper.{Stepped, stepped, Numbered, Ordered, ordered}
use defs.Coded.{stepped_of, Called, called_of, called, numbered_of, count_of, ordered_of}

-- the code's count and numbered slot by the paper's
abbrev counted_from : ℕ → ℕ → Result ℕ Refusal
counted_from n k = cond (eqb n 0) (Ok k) (Err (refusal_of n))

counted_from_count_of : (a : Result ℕ Refusal) → counted_from (count_of a).0 (count_of a).1 ≡ a
counted_from_count_of (Ok k) = refl
counted_from_count_of (Err r) = rw (ne_eqb (number_of r) 0 (number_of_positive r)) (ap Err (refusal_of_number_of r))

abbrev numbered_from : Numbered → NumberedCode
numbered_from x = record { number = x.number; slot = slot_from x.shown }

numbered_from_numbered_of : (x : NumberedCode) → numbered_from (numbered_of x) ≡ x
numbered_from_numbered_of x = λ i. record { number = x.number; slot = slot_from_shown_of x.slot i }

pub determined_open : (m : Bor (List ℕ)) (received : ℕ) (r s : Descriptions)
    → (r.message ≡ m) × (r.received ≡ received) × (r.place ≡ 0) → (s.message ≡ m) × (s.received ≡ received) × (s.place ≡ 0) → r ≡ s
determined_open m received r s a b =
    λ i. record { message = (a.0 ∙ sym b.0) i; received = (a.1 ∙ sym b.1) i; place = (a.2 ∙ sym b.2) i }

pub determined_next : (d : Descriptions) (r s : Result (Option NumberedCode) Refusal) (e f : Descriptions) → called_of r e ≡ called d → called_of s f ≡ called d → (r ≡ s) × (e ≡ f)
determined_next d r s e f a b = (
  determined_description_at d.message.now d.received d.place r s (ap (λ (c : Called). c.given) a) (ap (λ (c : Called). c.given) b),
  ap (λ (c : Called). c.left) (a ∙ sym b),
)

pub determined_given_at : (m : List ℕ) (received place : ℕ) (r s : SteppedCode)
    → stepped_of r ≡ stepped m received place → stepped_of s ≡ stepped m received place → r ≡ s
determined_given_at m received place r s a b =
    let given = determined_description_at m received place r.given s.given (ap (λ (t : Stepped). t.given) a) (ap (λ (t : Stepped). t.given) b) in
    let left = ap (λ (t : Stepped). t.place) (a ∙ sym b) in
    λ i. record { given = given i; place = left i }

pub determined_all_given : (m : List ℕ) (received : ℕ) (r s : OrderedCode) → ordered_of r ≡ ordered m received → ordered_of s ≡ ordered m received → r ≡ s
determined_all_given m received r s a b =
    let e = a ∙ sym b in
    let answer = sym (counted_from_count_of r.answer) ∙ ap (λ (o : Ordered). counted_from o.number o.count) e ∙ counted_from_count_of s.answer in
    let given = map_injective numbered_of numbered_from numbered_from_numbered_of r.given s.given (ap (λ (o : Ordered). o.given) e) in
    λ i. record { answer = answer i; given = given i }
