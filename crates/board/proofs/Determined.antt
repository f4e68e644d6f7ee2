-- Answers that meet a contract of `board` are equal.
use Rattle.std.specs.Prelude.{Result, Ok, Err}
use Rattle.laws.proofs.Base.{◌≡◌, refl, sym, ap, ◌∙◌, Bool, cond, List, ℕ, eqb, ne_eqb}
use Rattle.laws.specs.Determined.{Determined}
use Rattle.laws.proofs.Determined.{determined_by}
use Rattle.laws.proofs.Map.{map_injective}
use Rattle.refusals.specs.Number.{number_of}
use Rattle.refusals.specs.declared.Refusal.{Refusal}
use Rattle.refusals.proofs.Inverse.{refusal_of, refusal_of_number_of, number_of_positive}
use Rattle.board_held.specs.declared.Held.{Held}
use Rattle.board_held.specs.declared.Schedule.{Schedule}
use Rattle.board_held.specs.Coded.{schedule_of, lent_schedule}
use Rattle.board.specs as defs
use defs.declared.Decision.{Decision}
use defs.declared.Decision.TheVariants.{Read, Skip}
use defs.declared.Wanted.{Wanted as WantedCode}
use defs.Paper.{Wanted, Decided, decide}
use defs.Inner.{filled_wanted}
use defs.Coded.{id_of, wanted_of, lent_wanted, decided_of}

wanted_injective : (r s : WantedCode) → wanted_of r ≡ wanted_of s → r ≡ s
wanted_injective r s e =
    let ids = map_injective id_of (λ n. record { 0 = n }) (λ x. refl) r.ids s.ids (ap (λ (w : Wanted). w.ids) e) in
    λ i. record { count = (e i).count; ids = ids i }

pub determined_wanted_of : (list : List ℕ) → Determined (λ (r : WantedCode). wanted_of r ≡ filled_wanted list)
determined_wanted_of list = determined_by wanted_of wanted_injective

-- the code's decision by the paper's
abbrev decision_from : Decided → Result Decision Refusal
decision_from d = cond (eqb d.number 0) (cond d.read (Ok Read) (Ok Skip)) (Err (refusal_of d.number))

decision_from_decided_of : (d : Result Decision Refusal) → decision_from (decided_of d) ≡ d
decision_from_decided_of (Ok Read) = refl
decision_from_decided_of (Ok Skip) = refl
decision_from_decided_of (Err r) = rw (ne_eqb (number_of r) 0 (number_of_positive r)) (ap Err (refusal_of_number_of r))

decided_injective : (r s : Result Decision Refusal) → decided_of r ≡ decided_of s → r ≡ s
decided_injective r s e = sym (decision_from_decided_of r) ∙ ap decision_from e ∙ decision_from_decided_of s

pub determined_decide_on : (known : Bool) (m : List ℕ) (received slot : ℕ) (wanted : List ℕ) (held : Held)
    → Determined (λ (r : Result Decision Refusal). decided_of r ≡ decide (lent_schedule known m received) slot (lent_wanted wanted) held.0)
determined_decide_on known m received slot wanted held = determined_by decided_of decided_injective

pub determined_decide : (schedule : Schedule) (slot : ℕ) (wanted : WantedCode) (held : Held)
    → Determined (λ (r : Result Decision Refusal). decided_of r ≡ decide (schedule_of schedule) slot (wanted_of wanted) held.0)
determined_decide schedule slot wanted held = determined_by decided_of decided_injective
