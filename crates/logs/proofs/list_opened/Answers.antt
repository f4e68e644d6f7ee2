-- `logs::list_opened` meets its contract: memory for the lines can be lent.
use Rattle.laws.proofs.Base.{arith}
use Rattle.logs.proofs.list_opened.Goals as goal

pub whole_as_slice-lines : goal.whole_as_slice-lines
whole_as_slice-lines g c = let h = g.met.L.Listing.lendable in omega arith
