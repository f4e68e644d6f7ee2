-- `sender_message::Draft::put_group` meets its contract. The invariant: the descriptions of the slots so far are put one after the other.
use Rattle.laws.proofs.Base.{◌≡◌, ◌+◌, length, sets}
use Rattle.sender_message.specs.Coded.{shown_in}
use Rattle.sender_message.proofs.Groups.{told}
use Rattle.sender_message.proofs.Draft.put_group.Given as goal

abbrev pub invariant-loop-slot : goal.invariant-loop-slot
invariant-loop-slot l =
    (l.self.octets ≡ sets l.initial.self.octets l.initial.self.next (told (shown_in l.told) l.new l.slot-index))
    × (l.self.next ≡ l.initial.self.next + length (told (shown_in l.told) l.new l.slot-index))
