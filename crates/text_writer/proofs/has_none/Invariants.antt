-- `text_writer::has_none` meets its contract: the flag says whether one stands among the characters passed.
use Rattle.laws.proofs.Base.{◌≡◌, take}
use Rattle.laws.specs.Search.{some}
use Rattle.text_writer.proofs.Foreign.{none}
use Rattle.text_writer.proofs.has_none.Given as goal

abbrev pub invariant-loop-code : goal.invariant-loop-code
invariant-loop-code l = l.found ≡ some none (take l.code-index l.text)
