-- `schedule_places::read_schedule` meets its contract: the reader's answer is that of the reader with all places.
use Rattle.laws.proofs.Base.{ap, ◌∙◌}
use Rattle.std.proofs.lemmas.Result.{err_from_is_err_and}
use Rattle.schedule_places.specs.Inner.{Placed}
use Rattle.schedule_places.proofs.Known.{read_placed}
use Rattle.schedule_places.proofs.read_schedule.Goals as goal

pub returns-in_err-placed : goal.returns-in_err-placed
returns-in_err-placed c =
    let p = err_from_is_err_and c.from_residual.result c.from_residual.ensures.1 in
    rw (p.1, p.2) (ap (λ (l : Placed). l.read) c.in_err-placed.ensures ∙ read_placed _ _)

pub returns : goal.returns
returns c = ap (λ (l : Placed). l.read) c.in_ok-placed.ensures ∙ read_placed _ _
