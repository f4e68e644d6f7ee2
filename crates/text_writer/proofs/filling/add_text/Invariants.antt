-- `text_writer::filling::add_text` meets its contract. The invariant: what is still to be added leaves the same.
use Rattle.laws.proofs.Base.{◌≡◌, length, drop}
use Rattle.text.specs.Paper.{unpadded}
use Rattle.text_writer.specs.Inner.{AddableAll, added_all}
use Rattle.text_writer.proofs.filling.add_text.Given as goal

abbrev pub invariant-loop-code : goal.invariant-loop-code
invariant-loop-code l =
    AddableAll (unpadded (drop l.code-index l.text)) l.filling l.octets
    × (added_all (unpadded l.text) l.initial.filling l.initial.octets ≡ added_all (unpadded (drop l.code-index l.text)) l.filling l.octets)
    × (length l.octets ≡ length l.initial.octets)
