-- Answers that meet a contract of `schedule_places` are equal.
use Rattle.laws.proofs.Base.{◌≡◌, refl, sym, ap, ◌∙◌, cond, List, ℕ, eqb, ne_eqb}
use Rattle.std.specs.Prelude.{Result, Ok, Err}
use Rattle.refusals.specs.declared.Refusal.{Refusal}
use Rattle.refusals.specs.Number.{number_of}
use Rattle.refusals.proofs.Inverse.{refusal_of, refusal_of_number_of, number_of_positive}
use Rattle.schedule.specs.declared.Span.{Span}
use Rattle.schedule.specs.Paper.{read}
use Rattle.schedule.specs.Coded.{read_of}
use Rattle.schedule.proofs.Determined.{determined_read}
use Rattle.schedule_places.specs as defs
use defs.declared.Placed.{Placed as PlacedCode}
use defs.Coded.{placed_of}
use defs.Inner.{Placed, placed}

-- the code's answer by the paper's
abbrev placed_from : Placed → Result PlacedCode Refusal
placed_from x =
    cond (eqb x.read.number 0)
    (Ok (record { span = record { begin = x.read.begin; end = x.read.end }; places = x.places }))
    (Err (refusal_of x.read.number))

placed_from_placed_of : (r : Result PlacedCode Refusal) → placed_from (placed_of r) ≡ r
placed_from_placed_of (Ok p) = refl
placed_from_placed_of (Err r) = rw (ne_eqb (number_of r) 0 (number_of_positive r)) (ap Err (refusal_of_number_of r))

pub determined_read_schedule : (m : List ℕ) (received : ℕ) (r s : Result Span Refusal) → read_of r ≡ read m received → read_of s ≡ read m received → r ≡ s
determined_read_schedule m received = determined_read (read m received)

pub determined_read_places : (m : List ℕ) (received : ℕ) (r s : Result PlacedCode Refusal)
    → placed_of r ≡ placed m received → placed_of s ≡ placed m received → r ≡ s
determined_read_places m received r s a b = sym (placed_from_placed_of r) ∙ ap placed_from (a ∙ sym b) ∙ placed_from_placed_of s
