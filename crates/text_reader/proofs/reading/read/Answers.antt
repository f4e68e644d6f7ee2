-- `text_reader::reading::read` meets its contract: where there is no 1B, each septet is a character, and CRs are dropped at the end alone.
use Rattle.laws.proofs.Base.{sym, ◌∙◌, le_refl}
use Rattle.text_reader.proofs.Nexts.{reached_plainly, reached_end}
use Rattle.text_reader.proofs.reading.read.Goals as goal

pub returns : goal.returns
returns c =
    let septets = c.args.septets.now in
    reached_end septets _ _ 0 _ _ (reached_plainly septets _ (sym c.has_escape.ensures ∙ c.if-has_escape.false) c.put_points.ensures) (le_refl _) c.without_crs.ensures
