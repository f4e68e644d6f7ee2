-- Answers that meet a contract of `schedule` are equal.
use Rattle.laws.proofs.Base.{◌≡◌, refl, sym, ap, ◌∙◌, Bool, cond, List, ℕ, eqb, ne_eqb}
use Rattle.std.specs.Prelude.{Result, Ok, Err}
use Rattle.refusals.specs.declared.Refusal.{Refusal}
use Rattle.refusals.specs.Number.{number_of}
use Rattle.refusals.proofs.Inverse.{refusal_of, refusal_of_number_of, number_of_positive}
use Rattle.schedule.specs as defs
use defs.declared.Description.{Description}
use defs.declared.Description.TheVariants.{First, Repeat, Optional, Advised}
use defs.declared.Slot.{Slot}
use defs.declared.Span.{Span}
use defs.Paper.{octet_at, new, Told, first, again, optional, advised, told, Shown, Read}
use defs.Coded.{told_of, shown_of, read_of}
use defs.Inner.{head_read}

-- the code's description, slot and answers by the paper's
abbrev told_from : Told → Description
told_from (first x) = First x
told_from (again n) = Repeat n
told_from optional = Optional
told_from advised = Advised

told_from_told_of : (d : Description) → told_from (told_of d) ≡ d
told_from_told_of (First x) = refl
told_from_told_of (Repeat n) = refl
told_from_told_of Optional = refl
told_from_told_of Advised = refl

abbrev pub slot_from : Shown → Slot
slot_from s = record { new = s.new; description = told_from s.told }

pub slot_from_shown_of : (s : Slot) → slot_from (shown_of s) ≡ s
slot_from_shown_of s = λ i. record { new = s.new; description = told_from_told_of s.description i }

abbrev span_from : Read → Result Span Refusal
span_from r = cond (eqb r.number 0) (Ok (record { begin = r.begin; end = r.end })) (Err (refusal_of r.number))

span_from_read_of : (r : Result Span Refusal) → span_from (read_of r) ≡ r
span_from_read_of (Ok s) = refl
span_from_read_of (Err r) = rw (ne_eqb (number_of r) 0 (number_of_positive r)) (ap Err (refusal_of_number_of r))

pub determined_told_at : (m : List ℕ) (at : ℕ) (r s : Description) → told_of r ≡ told m at → told_of s ≡ told m at → r ≡ s
determined_told_at m at r s a b = sym (told_from_told_of r) ∙ ap told_from (a ∙ sym b) ∙ told_from_told_of s

pub determined_shown : (m : List ℕ) (i at : ℕ) (r s : Slot)
    → shown_of r ≡ record { new = new m i; told = told m at }
    → shown_of s ≡ record { new = new m i; told = told m at } → r ≡ s
determined_shown m i at r s a b = sym (slot_from_shown_of r) ∙ ap slot_from (a ∙ sym b) ∙ slot_from_shown_of s

pub determined_octet_at : (m : List ℕ) (at r s : ℕ) → r ≡ octet_at m at → s ≡ octet_at m at → r ≡ s
determined_octet_at m at r s a b = a ∙ sym b

pub determined_is_new : (m : List ℕ) (i : ℕ) (r s : Bool) → r ≡ new m i → s ≡ new m i → r ≡ s
determined_is_new m i r s a b = a ∙ sym b

-- any answer that the code's is known by
pub determined_read : (x : Read) (r s : Result Span Refusal) → read_of r ≡ x → read_of s ≡ x → r ≡ s
determined_read x r s a b = sym (span_from_read_of r) ∙ ap span_from (a ∙ sym b) ∙ span_from_read_of s

pub determined_read_header : (m : List ℕ) (received : ℕ) (r s : Result Span Refusal) → read_of r ≡ head_read m received → read_of s ≡ head_read m received → r ≡ s
determined_read_header m received = determined_read (head_read m received)
