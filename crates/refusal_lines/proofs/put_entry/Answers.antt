-- `refusal_lines::put_entry` meets its contract: the parts of the line, one behind the other.
use Rattle.refusals.specs.Number.{number_of}
use Rattle.lines.specs.Paper.{ascii}
use Rattle.lines.proofs.Texts.{and_then, and_others}
use Rattle.refusal_lines.specs.Paper.{numbered}
use Rattle.refusal_lines.proofs.put_entry.Goals as goal

pub returns-clause-put : goal.returns-clause-put
unfolding ascii
returns-clause-put c =
    let a = c.args in
    and_others (numbered a.program.now (number_of a.refusal)) _ _ _ c.put_named.ensures.put
    (and_then _ _ _ _ c.put.ensures.put
    (and_then _ _ _ _ c.put-2.ensures.put
    (and_then _ _ _ _ (rw c.from.ensures at c.put_number.ensures.put)
    (and_then _ _ _ _ c.put-3.ensures.put c.put_wrong.ensures.put))))
