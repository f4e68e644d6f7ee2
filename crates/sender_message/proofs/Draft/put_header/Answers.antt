-- `sender_message::Draft::put_header` meets its contract. The invariant: behind Begin and End, the octets of new bits so far are put.
use Rattle.laws.proofs.Base.{refl, ◌∙◌, ℕ, arith, length}
use Rattle.laws.specs.Upto.{each}
use Rattle.sender_message.specs.Paper.{new_bits}
use Rattle.sender_message.specs.Coded.{shown_in}
use Rattle.sender_message.proofs.Padded.{sets_turn}
use Rattle.sender_message.proofs.Draft.put_header.Goals as goal

pub loop-j-init : goal.loop-j-init
unfolding each
loop-j-init c = (refl, omega arith)

pub loop-j-preserved : goal.loop-j-preserved
loop-j-preserved c =
    let l = c.loop-j in
    let bits : ℕ → ℕ = λ (k : ℕ). new_bits (shown_in c.args.told.now) (length c.args.told.now) k 8 in
    let put = c.put_octet-in-loop-j.ensures in (
      put.octets ∙ rw l.invariant.1 (sets_turn bits _ l.self.octets 2 l.j c.new_octet.result l.invariant.0 c.new_octet.ensures),
      omega (arith, put.next, l.invariant.1),
    )
