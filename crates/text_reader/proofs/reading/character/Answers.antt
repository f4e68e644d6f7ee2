-- `text_reader::reading::character` meets its contract: each return is a case of the reader's rule.
use Rattle.text_reader.proofs.Nexts.{next_own, next_last, next_pair}
use Rattle.text_reader.proofs.reading.character.Goals as goal

pub returns-then-septet-ne27 : goal.returns-then-septet-ne27
returns-then-septet-ne27 c = next_own c.args.septets.now c.args.i c.requires _ c.if-septet-ne27.true c.of.ensures

pub returns-then-i-septets : goal.returns-then-i-septets
returns-then-i-septets c = next_last c.args.septets.now c.args.i c.requires c.if-septet-ne27.false c.if-i-septets.true

pub returns : goal.returns
returns c = next_pair c.args.septets.now c.args.i c.requires _ c.if-septet-ne27.false c.if-i-septets.false c.of_pair.ensures
