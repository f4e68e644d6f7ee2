-- `schedule_places::new_bits` meets its contract. The invariant: the octets so far as one number.
use Rattle.laws.proofs.Base.{◌≡◌, refl, ◌^◌, ◌<◌, add-one, arith}
use Rattle.schedule_places.proofs.Bits.{joined, joined_room, joined_new}
use Rattle.schedule_places.proofs.new_bits.Goals as goal

pub loop-j-init : goal.loop-j-init
unfolding joined
loop-j-init c = refl

pub overflow_mul-bits : goal.overflow_mul-bits
overflow_mul-bits c =
    let room : c.loop-j.bits < 2 ^ 40 = let l = c.loop-j in rw l.invariant (joined_room _ (λ i. (c.type_inv.message i).fits) l.j c.loop-j-test.true) in
    record { fits = omega (arith, room) }

pub overflow_add-bits : goal.overflow_add-bits
overflow_add-bits c =
    let room : c.loop-j.bits < 2 ^ 40 = let l = c.loop-j in rw l.invariant (joined_room _ (λ i. (c.type_inv.message i).fits) l.j c.loop-j-test.true) in
    record { fits = omega (arith, room) }

pub loop-j-preserved : goal.loop-j-preserved
unfolding joined
loop-j-preserved c =
    let l = c.loop-j in
    rw (add-one l.j, ← l.invariant, c.octet_at.ensures)

pub returns : goal.returns
returns c =
    let l = c.loop-j in
    let all : l.j ≡ 6 = omega arith in
    rw (l.invariant, all) (joined_new _ (λ i. (c.type_inv.message i).fits))
