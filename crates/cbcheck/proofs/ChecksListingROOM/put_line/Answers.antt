-- The line that `cbcheck` puts is that of the answer: only a schedule message complete has one.
use Rattle.laws.proofs.Base.{arith}
use Rattle.lines.proofs.Behind.{puts_none, puts_wider}
use Rattle.lines.proofs.Texts.{length_all, puts_all}
use Rattle.cbcheck.proofs.Handed.{line_complete, line_none}
use Rattle.cbcheck.proofs.Wide.{line_wide}
use Rattle.cbcheck.proofs.ChecksListingROOM.put_line.Goals as goal

pub returns-then-answer-ne7-clause-put : goal.returns-then-answer-ne7-clause-put
returns-then-answer-ne7-clause-put c g a =
    rw (line_none _ a c.args.number c.if-answer-ne7.true) (puts_wider 143 (omega arith) (puts_none c.args.lines.now.end c.args.lines.now.memory.now))

pub returns-clause-put : goal.returns-clause-put
returns-clause-put c g a =
    rw (line_complete _ a c.args.number c.if-answer-ne7.false, ← c.check_slots-checked.ensures)
    (puts_all _ _ _ 143 c.put_checked.ensures.put (line_wide _ _) c.requires.1)

pub returns-clause-size : goal.returns-clause-size
returns-clause-size c = length_all _ _ _ c.put_checked.ensures.put
