-- `sender::telling` meets its contract. The invariant: the slots passed are told by what the plans say of them.
use Rattle.laws.proofs.Base.{ap, ◌∙◌, ℕ, arith, get_or, get_or-take, take, length-set, length-take-le, not-suc-le-zero}
use Rattle.plan.specs.Coded.{plan_of}
use Rattle.plan_slots.specs.Coded.{planned_of}
use Rattle.plan_slots.specs.Inner.{nothing}
use Rattle.sender.specs.Inner.{shown_by}
use Rattle.sender.proofs.Tells.{shown15, all_told, told_more}
use Rattle.sender.proofs.telling.Goals as goal

pub loop-i-init : goal.loop-i-init
loop-i-init c = (omega arith, λ k l. absurd (not-suc-le-zero l))

pub loop-i-preserved : goal.loop-i-preserved
loop-i-preserved c =
    let l = c.loop-i in
    let said = take c.args.current.count c.all_planned-all.result in
    let counted = length-take-le c.args.current.count c.all_planned-all.result (omega arith) in (
      length-set l.slots l.i c.tell.result ∙ l.invariant.0,
      told_more (λ (k : ℕ). shown15 (shown_by (planned_of (get_or said k nothing)) k)) l.slots l.i c.tell.result (omega arith) l.invariant.1 (ap shown15 c.tell.ensures),
    )

pub returns : goal.returns
returns c =
    let a = c.args in
    let all = c.all_planned-all.result in
    let counted = length-take-le a.current.count all (omega arith) in
    λ k low.
    c.loop-i.invariant.1 k (omega arith)
    ∙ rw (get_or-take a.current.count all k nothing low) (all_told (plan_of a.current) (plan_of a.previous) all c.all_planned-all.ensures (omega arith) k low)
