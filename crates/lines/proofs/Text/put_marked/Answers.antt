-- `Text::put_marked` meets its contract: two texts, one behind the other.
use Rattle.lines.proofs.Texts.{and_then, and_last}
use Rattle.lines.proofs.Text.put_marked.Goals as goal

pub returns-clause-put : goal.returns-clause-put
returns-clause-put c = and_then _ _ _ _ c.put_number.ensures.put (and_last _ _ _ c.put_octet.ensures.put)
