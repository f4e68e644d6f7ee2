-- `schedule_given::Told::slot_at` meets its contract: the slot picked out of its group is the one that the order has at the place.
use Rattle.laws.proofs.Base.{true, false, ◌≡◌, sym, ◌∙◌, ◌+◌, ◌-◌, zero-add, arith}
use Rattle.laws.specs.Upto.{count}
use Rattle.schedule.specs.Paper.{grouped, end as end_of}
use Rattle.schedule.proofs.Order.{groups_whole, order_picks}
use Rattle.schedule_given.proofs.Told.slot_at.Goals as goal

pub returns-then-place-news : goal.returns-then-place-news
returns-then-place-news c =
    let m = c.args.self.message.now in
    let w = c.pick.ensures in
    (sym (order_picks m true _ _ w) ∙ rw zero-add, omega (arith, w.below))

pub pick-requires-2 : goal.pick-requires-2
pick-requires-2 c =
    let m = c.args.self.message.now in
    let ends = c.args.self.ends in
    rw ends (omega (arith, groups_whole m, rw ends at c.count_new-news.ensures))

pub returns : goal.returns
returns c =
    let a = c.args in
    let m = a.self.message.now in
    let w = c.pick-2.ensures in
    let news = rw a.self.ends at c.count_new-news.ensures in
    let back : count (grouped m true) (end_of m) + (a.place - c.count_new-news.result) ≡ a.place = omega arith in
    (sym (order_picks m false _ _ w) ∙ rw back, omega (arith, w.below))
