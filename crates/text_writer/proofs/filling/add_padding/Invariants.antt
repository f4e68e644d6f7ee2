-- `text_writer::filling::add_padding` meets its contract. The invariant: what is still to be added leaves the same.
use Rattle.laws.proofs.Base.{◌≡◌, ◌-◌, length, replicate}
use Rattle.text.specs.Paper.{cr}
use Rattle.text_writer.specs.Inner.{AddableAll, added_all}
use Rattle.text_writer.proofs.filling.add_padding.Given as goal

abbrev pub invariant-loop : goal.invariant-loop
invariant-loop l =
    AddableAll (replicate (93 - l.counter) cr) l.filling l.octets
    × (added_all (replicate (93 - l.count) cr) l.initial.filling l.initial.octets ≡ added_all (replicate (93 - l.counter) cr) l.filling l.octets)
    × (length l.octets ≡ length l.initial.octets)
