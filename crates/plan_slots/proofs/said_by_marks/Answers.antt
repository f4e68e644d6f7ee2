-- `plan_slots::said_by_marks` meets its contract. The invariant: the slots passed are said by the searches for their marks.
use Rattle.plan_slots.proofs.Said.{says_none}
use Rattle.plan_slots.proofs.said_by_marks.Goals as goal

pub loop-i-init : goal.loop-i-init
loop-i-init c = says_none _ c.none_planned-unused.result c.none_planned-unused.ensures
