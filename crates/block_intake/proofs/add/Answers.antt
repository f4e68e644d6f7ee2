-- The content lands where the message's 2B begins, and the last block hands it out.
use Rattle.laws.proofs.Base.{◌≡◌, ◌∙◌, cond, eqb, eq-eqb, ne_eqb}
use Rattle.std.specs.Prelude.{Ok}
use Rattle.block.proofs.Filled.{filled_copy, rest_of}
use Rattle.block_intake.specs.Coded.{held_of, answer_of}
use Rattle.block_intake.proofs.Answers.{handed_parts}
use Rattle.std.proofs.Common.{rules}
use Rattle.block_intake.proofs.add.Goals.{then-state-eq2, else-state-eq2}
use Rattle.block_intake.proofs.add.Goals as goal

pub returns : goal.returns
returns c =
    let s = c.args.state in
    let p = c.requires in
    let octets = filled_copy s.taken s.octets c.args.piece.now p.room (search rules) p.whole p.rest c.copy.new.to (c.copy.ensures ∙ rest_of 1 c.args.piece.now) in
    let number : answer_of (Ok c.if-state-eq2.answer) ≡ cond (eqb s.kind 2) 7 0 =
    elim c.if-state-eq2.branch [
      | then-state-eq2 w ↦ rw (w.answer-is, eq-eqb _ _ w.if-state-eq2.true)
      | else-state-eq2 w ↦ rw (w.answer-is, ne_eqb _ _ w.if-state-eq2.false)
    ] in
    handed_parts c.args.last s.kind s.taken s.octets c.args.piece.now _ octets _ (held_of c.start.result) c.if-not-last.false c.start.ensures number
