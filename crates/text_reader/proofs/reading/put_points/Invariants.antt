-- `text_reader::reading::put_points` meets its contract: after i turns the first i places are written.
use Rattle.laws.proofs.Base.{◌≡◌, map, length, take}
use Rattle.alphabet.specs.Paper.{code_point}
use Rattle.text_reader.proofs.reading.put_points.Given as goal

abbrev pub invariant-loop-i : goal.invariant-loop-i
invariant-loop-i l = (length l.text ≡ length l.initial.text) × (take l.i l.text ≡ map code_point (take l.i l.septets))
