-- `text_writer::is_plain` meets its contract: a character past the table has no septet of its own.
use Rattle.laws.proofs.Base.{sym, ap, ◌∙◌, not}
use Rattle.text_writer.proofs.Foreign.{past_odd}
use Rattle.text_writer.proofs.is_plain.Goals as goal

pub returns-then-has_past : goal.returns-then-has_past
returns-then-has_past c = sym (ap not (past_odd _ (sym c.has_past.ensures ∙ c.if-has_past.true)))
