-- An improper state is refused, and for a proper one the place of the piece gives the answer.
use Rattle.laws.proofs.Base.{sym, ap, ◌∙◌}
use Rattle.block_intake.specs.Coded.{held_of, leaving}
use Rattle.block.proofs.Steps.{step_improper, step_refused, step_placed, adds_first, adds_next}
use Rattle.block_intake.proofs.Answers.{begun_parts}
use Rattle.block_intake.proofs.intake.Goals as goal

pub returns-then-not-is_proper : goal.returns-then-not-is_proper
returns-then-not-is_proper c =
    c.refused.ensures
    ∙ ap (leaving 8) c.start-started.ensures
    ∙ sym (step_improper (held_of c.args.state) c.args.piece.now (sym c.is_proper.ensures ∙ c.if-not-is_proper.true))

pub add-requires : goal.add-requires
add-requires c =
    adds_first c.args.piece.now _ _ c.in-Ok.is (held_of c.start-started.result) 0 c.args.state.taken c.start-started.ensures c.place_of-found.ensures

pub add-requires-in-Next : goal.add-requires-in-Next
add-requires-in-Next c =
    adds_next c.args.piece.now _ _ c.in-Ok.is (held_of c.args.state) (sym c.is_proper.ensures ∙ c.if-not-is_proper.false) c.place_of-found.ensures

pub returns-in-First : goal.returns-in-First
returns-in-First c =
    step_placed (held_of c.args.state) c.args.piece.now _ (sym c.is_proper.ensures ∙ c.if-not-is_proper.false) c.place_of-found.ensures _ _ _
    c.in-Ok.is c.in-First.is (c.add.ensures ∙ begun_parts _ _ _ _ c.args.piece.now c.from.ensures c.start-started.ensures)

pub returns-in-Next : goal.returns-in-Next
returns-in-Next c =
    step_placed (held_of c.args.state) c.args.piece.now _ (sym c.is_proper.ensures ∙ c.if-not-is_proper.false) c.place_of-found.ensures _ _ _
    c.in-Ok.is c.in-Next.is c.add-in-Next.ensures

pub returns-in-Err : goal.returns-in-Err
returns-in-Err c =
    step_refused (held_of c.args.state) c.args.piece.now _ (sym c.is_proper.ensures ∙ c.if-not-is_proper.false) c.place_of-found.ensures _ _
    c.in-Err.is (c.refused-in-Err.ensures ∙ ap (leaving _) c.start-started.ensures)
