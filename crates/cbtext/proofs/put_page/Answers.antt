-- `cbtext::put_page` meets its contract: the heading and the body, each behind the text so far, and the line's end.
use Rattle.lines.proofs.Texts.{and_last, and_others}
use Rattle.cbtext.specs.Paper.{heading}
use Rattle.cbtext.specs.Inner.{body_texts}
use Rattle.cbtext.proofs.put_page.Goals as goal

pub returns-clause-put : goal.returns-clause-put
returns-clause-put c =
    and_others (heading _ _) _ _ _ c.put_heading.ensures.put
    (and_others (body_texts _ _) _ _ _ c.put_body.ensures.put (and_last _ _ _ c.put_octet.ensures.put))
