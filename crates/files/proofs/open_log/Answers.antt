-- `files::open_log` meets its contract: the name is put within the memory for it.
use Rattle.laws.proofs.Base.{arith}
use Rattle.lines.proofs.Behind.{ends_inside}
use Rattle.files.proofs.open_log.Goals as goal

pub returns-in-Err-NotPresent : goal.returns-in-Err-NotPresent
returns-in-Err-NotPresent g c = ends_inside _ _ _ (omega arith) c.put.ensures.put
