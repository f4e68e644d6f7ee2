-- `refusal_lines::put_named` meets its contract: four texts, one behind the other.
use Rattle.lines.specs.Paper.{ascii}
use Rattle.lines.proofs.Texts.{and_then, and_last}
use Rattle.refusal_lines.proofs.put_named.Goals as goal

pub returns-clause-put : goal.returns-clause-put
unfolding ascii
returns-clause-put c =
    and_then _ _ _ _ c.put.ensures.put
    (and_then _ _ _ _ c.put-2.ensures.put
    (and_then _ _ _ _ (rw (c.from-2.ensures, c.from.ensures) at c.put_number.ensures.put) (and_last _ _ _ c.put-3.ensures.put)))
