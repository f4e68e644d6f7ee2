-- `cbtext::put_heading` meets its contract: what the page's header says, behind the block's number.
use Rattle.laws.proofs.Base.{◌∙◌}
use Rattle.lines.proofs.Texts.{and_then, and_others}
use Rattle.cbtext.specs.Paper.{names}
use Rattle.cbtext.proofs.Body.{header_front}
use Rattle.cbtext.proofs.put_heading.Goals as goal

pub returns-clause-put : goal.returns-clause-put
returns-clause-put c =
    let page = c.args.page.now in
    rw (← (c.from-header.ensures ∙ header_front page))
    (and_others (names _ _ _) _ _ _ c.put_names.ensures.put (and_then _ _ _ _ c.put_octet.ensures.put c.put_parameter.ensures.put))
