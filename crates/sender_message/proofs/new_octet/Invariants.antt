-- `sender_message::new_octet` meets its contract. The invariant: the bits so far.
use Rattle.laws.proofs.Base.{◌≡◌, length}
use Rattle.sender_message.specs.Paper.{new_bits}
use Rattle.sender_message.specs.Coded.{shown_in}
use Rattle.sender_message.proofs.new_octet.Given as goal

abbrev pub invariant-loop-k : goal.invariant-loop-k
invariant-loop-k l = l.bits ≡ new_bits (shown_in l.told) (length l.told) l.j l.k
