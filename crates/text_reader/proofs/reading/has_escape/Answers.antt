use Rattle.laws.proofs.Base.{refl}
use Rattle.laws.specs.Search.{some}
use Rattle.text_reader.proofs.reading.has_escape.Goals as goal

pub loop-septet-init : goal.loop-septet-init
unfolding some
loop-septet-init c = refl
