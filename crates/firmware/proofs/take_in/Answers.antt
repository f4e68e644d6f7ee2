-- An improper state is refused, and for a proper one the place of the piece tells what is left.
use Rattle.laws.proofs.Base.{refl, sym, ap, ◌∙◌}
use Rattle.block.specs.Inner.{outcome}
use Rattle.block.specs.Paper.{added}
use Rattle.block.proofs.Steps.{step_improper, step_refused, step_placed, adds_first, adds_next}
use Rattle.firmware.specs.Paper.{held_in, moved}
use Rattle.firmware.proofs.Lent.{proper_in, begun_in, refused_over}
use Rattle.std.proofs.Common.{rules}
use Rattle.firmware.proofs.take_in.Goals as goal

pub returns-then-not-is_proper : goal.returns-then-not-is_proper
returns-then-not-is_proper c =
    let s = c.args.state.now in
    let bad = sym (proper_in s _ (search rules) c.is_proper.ensures) ∙ c.if-not-is_proper.true in
    refused_over 8 _ _ c.args.output.now c.refuse.ensures.0 c.refuse.ensures.1 ∙ rw (step_improper (held_in s) c.args.piece.now bad)

pub returns-in-Err : goal.returns-in-Err
returns-in-Err c =
    let s = c.args.state.now in
    let good = sym (proper_in s _ (search rules) c.is_proper.ensures) ∙ c.if-not-is_proper.false in
    refused_over _ _ _ c.args.output.now c.refuse-in-Err.ensures.0 c.refuse-in-Err.ensures.1
    ∙ ap (λ g. moved g c.args.output.now) (step_refused (held_in s) c.args.piece.now _ good c.place_of-found.ensures _ _ c.in-Err.is refl)

pub add-requires : goal.add-requires
add-requires c =
    let begun = begun_in _ _ _ c.clear.ensures c.from.ensures in
    adds_first c.args.piece.now _ _ c.in-Ok.is _ _ _ begun c.place_of-found.ensures

pub add-requires-in-Next : goal.add-requires-in-Next
add-requires-in-Next c =
    let s = c.args.state.now in
    let good = sym (proper_in s _ (search rules) c.is_proper.ensures) ∙ c.if-not-is_proper.false in
    adds_next c.args.piece.now _ _ c.in-Ok.is (held_in s) good c.place_of-found.ensures

pub returns-in-First : goal.returns-in-First
returns-in-First c =
    let s = c.args.state.now in
    let good = sym (proper_in s _ (search rules) c.is_proper.ensures) ∙ c.if-not-is_proper.false in
    let begun = begun_in _ _ _ c.clear.ensures c.from.ensures in
    c.add.ensures
    ∙ ap (λ g. moved g c.args.output.now)
    (step_placed (held_in s) c.args.piece.now _ good c.place_of-found.ensures _ _ _ c.in-Ok.is c.in-First.is
    (ap (λ h. outcome c.in-First.last (added h c.args.piece.now)) begun))

pub returns-in-Next : goal.returns-in-Next
returns-in-Next c =
    let s = c.args.state.now in
    let good = sym (proper_in s _ (search rules) c.is_proper.ensures) ∙ c.if-not-is_proper.false in
    c.add-in-Next.ensures
    ∙ ap (λ g. moved g c.args.output.now)
    (step_placed (held_in s) c.args.piece.now _ good c.place_of-found.ensures _ _ _ c.in-Ok.is c.in-Next.is refl)
