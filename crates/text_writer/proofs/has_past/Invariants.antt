-- `text_writer::has_past` meets its contract: the flag says whether one stands among the characters passed.
use Rattle.laws.proofs.Base.{◌≡◌, take}
use Rattle.text_writer.specs.Inner.{past}
use Rattle.text_writer.proofs.has_past.Given as goal

abbrev pub invariant-loop-code : goal.invariant-loop-code
invariant-loop-code l = l.found ≡ past (take l.code-index l.text)
