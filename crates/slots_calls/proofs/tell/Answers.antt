-- `slots_calls::tell` meets its contract: the slots before the loop's are told.
use Rattle.laws.proofs.Base.{◌∙◌, arith, length-set}
use Rattle.laws.proofs.Upto.{each_start, each_turn}
use Rattle.slots_calls.specs.Paper.{packed_slot}
use Rattle.slots_calls.proofs.Slots.{packed_slot_lem}
use Rattle.std.proofs.Common.{rules}
use Rattle.slots_calls.proofs.tell.Goals as goal

pub loop-i-init : goal.loop-i-init
loop-i-init c =
    let a = c.args in
    (search rules, each_start (packed_slot a.message.now) a.slots.now)

pub loop-i-preserved : goal.loop-i-preserved
loop-i-preserved c =
    let l = c.loop-i in (
      simp length-set (omega arith),
      each_turn (packed_slot c.args.message.now) l.slots l.i l.invariant.1 _ (c.packed_at.ensures ∙ packed_slot_lem c.args.message.now c.args.places.now c.args.end c.requires l.i) (omega arith),
    )
