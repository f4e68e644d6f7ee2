-- `descriptions::all_given` meets its contract. The invariant: the slots given so far stand in their places, and none of the answers was the last.
use Rattle.laws.proofs.Base.{◌≡◌, refl, inl, inr, arith}
use Rattle.std.specs.Prelude.{None, Ok}
use Rattle.std.proofs.Common.{rules}
use Rattle.descriptions.proofs.Stepping.{step_gave}
use Rattle.descriptions.proofs.Giving.{gave_none, gave_refused, gave_all}
use Rattle.descriptions.proofs.all_given.Goals as goal

pub loop-init : goal.loop-init
loop-init c = (refl, gave_none c.args.message.now c.args.received)

pub returns-in-Ok-None : goal.returns-in-Ok-None
returns-in-Ok-None c =
    let l = c.loop in
    let none : c.given_at-step.result.given ≡ Ok None = search rules in
    gave_all l.invariant.1 (inl (step_gave _ _ _ _ c.given_at-step.ensures _ none)) (omega arith)

pub returns-in-Err : goal.returns-in-Err
returns-in-Err c = gave_refused c.loop.invariant.1 _ (step_gave _ _ _ _ c.given_at-step.ensures _ c.in-Err.is)

pub returns : goal.returns
returns c = let l = c.loop in gave_all l.invariant.1 (inr (omega arith)) (omega arith)
