-- The line that `cblist` puts is that of the answer.
use Rattle.lines.proofs.Texts.{length_all, puts_all}
use Rattle.cblist.proofs.Wide.{line_wide}
use Rattle.cblist.proofs.BlocksListingROOM.put_line.Goals as goal

pub returns-clause-put : goal.returns-clause-put
returns-clause-put c g a = rw (a.number, a.received) at (puts_all _ _ _ 63 c.put_line.ensures.put (line_wide _ _ _) c.requires.1)

pub returns-clause-size : goal.returns-clause-size
returns-clause-size c = length_all _ _ _ c.put_line.ensures.put
