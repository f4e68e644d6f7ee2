-- `sender_message::new_octet` meets its contract. The invariant: the bits so far.
use Rattle.laws.proofs.Base.{refl, sym, ◌+◌, ◌*◌, arith, length}
use Rattle.sender_message.specs.Paper.{new_bits}
use Rattle.sender_message.specs.Coded.{shown_in}
use Rattle.sender_message.proofs.News.{new_bit_few, new_bits_room, new_bits_next}
use Rattle.sender_message.proofs.new_octet.Goals as goal

pub loop-k-init : goal.loop-k-init
unfolding new_bits
loop-k-init c = refl

pub overflow_mul-bits : goal.overflow_mul-bits
overflow_mul-bits c =
    let a = c.args in
    omega (arith, new_bits_room (shown_in a.told.now) (length a.told.now) a.j c.loop-k.k c.loop-k-test.true, c.loop-k.invariant)

pub overflow_add-bits : goal.overflow_add-bits
overflow_add-bits c =
    let a = c.args in
    let k = c.loop-k.k in
    omega (arith, new_bits_room (shown_in a.told.now) (length a.told.now) a.j k c.loop-k-test.true, c.loop-k.invariant, new_bit_few (shown_in a.told.now) (length a.told.now) a.j (8 * a.j + k), c.new_bit.ensures)

pub loop-k-preserved : goal.loop-k-preserved
loop-k-preserved c =
    let a = c.args in
    rw (c.new_bit.ensures, c.loop-k.invariant) (sym (new_bits_next (shown_in a.told.now) (length a.told.now) a.j c.loop-k.k))
