-- `logs::started` meets its contract: the memory has the length that a start call asks for.
use Rattle.laws.proofs.Base.{ap}
use Rattle.firmware.specs.Paper.{Started, start_call}
use Rattle.logs.proofs.started.Goals as goal

pub returns : goal.returns
unfolding start_call
returns c = ap (λ (s : Started). s.state) c.cb_start.ensures
