-- `sender_message::Draft::put_header` meets its contract. The invariant: behind Begin and End, the octets of new bits so far are put.
use Rattle.laws.proofs.Base.{◌≡◌, ℕ, ◌+◌, length, sets}
use Rattle.laws.specs.Upto.{each}
use Rattle.sender_message.specs.Paper.{new_bits}
use Rattle.sender_message.specs.Coded.{shown_in}
use Rattle.sender_message.proofs.Draft.put_header.Given as goal

abbrev pub invariant-loop-j : goal.invariant-loop-j
invariant-loop-j l =
    (l.self.octets ≡ sets l.initial.self.octets 2 (each (λ (k : ℕ). new_bits (shown_in l.fn.told) (length l.fn.told) k 8) l.j)) × (l.self.next ≡ 2 + l.j)
