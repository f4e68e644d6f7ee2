-- `sender_message::Draft::put_group` meets its contract. The invariant: the descriptions of the slots so far are put one after the other.
use Rattle.laws.proofs.Base.{refl, arith, length}
use Rattle.sender_message.specs.Coded.{shown_in}
use Rattle.sender_message.proofs.Groups.{told_none, told_out, told_room, put_in}
use Rattle.sender_message.proofs.Draft.put_group.Goals as goal
use Rattle.sender_message.proofs.Draft.put_group.Goals.{else-slot-new, then-slot-new}

pub loop-slot-init : goal.loop-slot-init
loop-slot-init c = let a = c.args in rw (told_none (shown_in a.told.now) a.new) (refl, omega arith)

pub put-requires : goal.put-requires
put-requires c =
    let a = c.args in
    let l = c.loop-slot in
    omega (arith, c.requires, l.invariant.1, told_room (shown_in a.told.now) a.new (length a.told.now) l.slot-index c.loop-slot-test.true c.if-slot-new.true)

pub loop-slot-preserved : goal.loop-slot-preserved
loop-slot-preserved c =
    let a = c.args in
    let l = c.loop-slot in
    let s = shown_in a.told.now in
    elim c.if-slot-new.branch [
      | then-slot-new w ↦ rw w.self-is (put_in s a.new l.slot-index a.self.now.octets a.self.now.next l.self.octets l.self.next l.invariant.0 l.invariant.1 w.if-slot-new.true _ _ w.put.ensures.octets w.put.ensures.next)
      | else-slot-new w ↦ rw (w.self-is, told_out s a.new l.slot-index w.if-slot-new.false) l.invariant
    ]
