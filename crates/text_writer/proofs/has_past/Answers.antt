use Rattle.laws.proofs.Base.{refl}
use Rattle.laws.specs.Search.{some}
use Rattle.text_writer.proofs.has_past.Goals as goal

pub loop-code-init : goal.loop-code-init
unfolding some
loop-code-init c = refl
