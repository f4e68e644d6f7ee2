-- `planfile::take` meets its contract: where no file is opened, none is taken.
use Rattle.planfile.proofs.Good.{untaken_good}
use Rattle.planfile.proofs.take.Goals as goal

pub returns-in_err-opened : goal.returns-in_err-opened
returns-in_err-opened g c = rw c.from_residual.ensures untaken_good
