-- `refusal_lines::put_begin` meets its contract: the parts of the line, one behind the other.
use Rattle.lines.specs.Paper.{ascii}
use Rattle.lines.proofs.Texts.{and_then, and_last, and_others}
use Rattle.refusal_lines.specs.Paper.{numbered}
use Rattle.refusal_lines.proofs.put_begin.Goals as goal

pub returns-clause-put : goal.returns-clause-put
unfolding ascii
returns-clause-put c =
    and_others (numbered _ 21) _ _ _ c.put_named.ensures.put
    (and_then _ _ _ _ c.put.ensures.put
    (and_then _ _ _ _ c.put-2.ensures.put
    (and_then _ _ _ _ c.put-3.ensures.put
    (and_then _ _ _ _ c.put_number.ensures.put
    (and_last _ _ _ c.put-4.ensures.put)))))
