-- `schedule_places::find_group` meets its contract. The invariant: the slots passed are found, and the place is that after their descriptions.
use Rattle.laws.proofs.Base.{refl, ◌<◌, arith, length-set}
use Rattle.schedule_places.proofs.Finds.{finds_none, finds_skip, finds_take, finds_short}
use Rattle.schedule.proofs.News.{grouped_told}
use Rattle.std.proofs.Common.{rules}
use Rattle.schedule_places.proofs.find_group.Goals as goal
use Rattle.schedule_places.proofs.find_group.Goals.{else-bits-i, then-bits-i+in-Some}

pub loop-i-init : goal.loop-i-init
loop-i-init c =
    let p = c.requires in
    (p.3, search rules, search rules, finds_none _ _ _ _ _ p.2)

pub returns-in_default : goal.returns-in_default
returns-in_default c =
    let l = c.loop-i in
    let room : l.i < 48 = omega (arith, c.requires.0.last) in
    let inside = grouped_told c.args.message.now l.i c.args.new _ _ (c.requires.1 l.i room) c.if-bits-i.true in
    (refl, finds_short _ _ _ _ l.i l.at l.places l.firsts l.invariant.3 inside c.args.received (omega (arith, c.requires.0.ends)) c.in_default.ensures)

pub loop-i-preserved : goal.loop-i-preserved
loop-i-preserved c =
    let a = c.args in
    let l = c.loop-i in
    let m = a.message.now in
    let room : l.i < 48 = omega (arith, c.requires.0.last) in
    let bit = c.requires.1 l.i room in
    elim c.if-bits-i.branch [
      | then-bits-i+in-Some w ↦ let inside = grouped_told m l.i a.new _ _ bit w.if-bits-i.true in
          let k =
          finds_take _ _ _ _ l.i l.at l.places l.firsts l.invariant.3 inside a.received _ _ _ l.invariant.1 l.invariant.2 room w.in-Some.ensures
          w.is_first.ensures in
          rw (w.places-is, w.firsts-is, w.at-is) (k.1, simp length-set l.invariant.1, simp length-set l.invariant.2, k.0)
      | else-bits-i w ↦ let outside = grouped_told m l.i a.new _ _ bit w.if-bits-i.false in
          rw (w.places-is, w.firsts-is, w.at-is)
          (l.invariant.0, l.invariant.1, l.invariant.2, finds_skip _ _ _ _ l.i l.at l.places l.firsts l.invariant.3 outside)
    ]
