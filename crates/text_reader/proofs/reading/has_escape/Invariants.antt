-- `text_reader::reading::has_escape` meets its contract: the flag says whether one stands among the septets passed.
use Rattle.laws.proofs.Base.{◌≡◌, take}
use Rattle.text_reader.specs.Inner.{escaping}
use Rattle.text_reader.proofs.reading.has_escape.Given as goal

abbrev pub invariant-loop-septet : goal.invariant-loop-septet
invariant-loop-septet l = l.found ≡ escaping (take l.septet-index l.septets)
