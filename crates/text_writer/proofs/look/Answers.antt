-- `text_writer::look` meets its contract: a plain text has a septet for each character.
use Rattle.laws.proofs.Base.{sym, ◌∙◌, not-true}
use Rattle.text_writer.proofs.Foreign.{plain_text}
use Rattle.text_writer.proofs.look.Goals as goal

pub returns-then-is_plain : goal.returns-then-is_plain
returns-then-is_plain c = plain_text _ (not-true _ (sym c.is_plain.ensures ∙ c.if-is_plain.true))
