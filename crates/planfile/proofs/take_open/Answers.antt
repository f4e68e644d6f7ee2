-- `planfile::take_open` meets its contract: a plan that was taken is good.
use Rattle.planfile.specs.Inner.{taken_of}
use Rattle.planfile.proofs.Good.{untaken_good, taken_good}
use Rattle.planfile.proofs.take_open.Goals as goal

pub returns-in-Ok : goal.returns-in-Ok
returns-in-Ok g c = taken_good (taken_of c.take_octets.result) _ c.take_octets.ensures

pub returns-in-Err : goal.returns-in-Err
returns-in-Err g c = untaken_good
