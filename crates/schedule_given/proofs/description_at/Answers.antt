-- `schedule_given::description_at` meets its contract: each answer is told from that of the reader with all places.
use Rattle.laws.proofs.Base.{refl, arith}
use Rattle.std.proofs.lemmas.Result.{err_from_is_err_and}
use Rattle.schedule_places.proofs.Known.{given_good}
use Rattle.schedule_given.proofs.Givens.{given_refused, given_none, given_next}
use Rattle.schedule_given.proofs.description_at.Goals as goal

pub returns-in_err-found : goal.returns-in_err-found
returns-in_err-found c =
    let p = err_from_is_err_and c.from_residual.result c.from_residual.ensures.1 in
    rw (p.1, p.2) (given_refused _ _ _ c.in_err-found.ensures _ _ refl)

pub returns-then-place-end : goal.returns-then-place-end
returns-then-place-end c =
    let good = given_good _ _ _ c.in_ok-found.ensures _ _ refl in
    given_none _ _ _ c.in_ok-found.ensures _ _ good (omega (arith, c.if-place-end.true))

pub invariant_of-told : goal.invariant_of-told
invariant_of-told c =
    let g = given_good _ _ _ c.in_ok-found.ensures _ _ refl in
    record { ends = g.ends; last = g.last }

pub returns : goal.returns
returns c =
    let good = given_good _ _ _ c.in_ok-found.ensures _ _ refl in
    given_next _ _ _ c.in_ok-found.ensures _ _ good _ _ c.if-place-end.false c.slot_at-i.ensures.0 c.slot_at-i.ensures.1 c.shown-slot.ensures
