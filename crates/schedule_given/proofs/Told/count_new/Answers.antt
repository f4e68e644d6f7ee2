-- `schedule_given::Told::count_new` meets its contract. The invariant: the number is the count of the slots passed.
use Rattle.laws.proofs.Base.{◌≡◌, sym, ap, Bool, true, bool_beq, arith}
use Rattle.laws.proofs.Upto.{count_none, count_yes, count_no, count_le}
use Rattle.schedule.specs.Paper.{grouped}
use Rattle.schedule.proofs.News.{grouped_told}
use Rattle.schedule_given.proofs.Told.count_new.Goals as goal
use Rattle.schedule_given.proofs.Told.count_new.Goals.{else-is_new, then-is_new}

pub loop-i-init : goal.loop-i-init
loop-i-init c = sym (count_none _)

pub overflow_add-n : goal.overflow_add-n
overflow_add-n c = omega (arith, count_le (grouped c.args.self.message.now true) c.loop-i.i)

pub loop-i-preserved : goal.loop-i-preserved
loop-i-preserved c =
    let m = c.args.self.message.now in
    let l = c.loop-i in
    let told : (v : Bool) → c.is_new.result ≡ v → grouped m true l.i ≡ bool_beq v true =
    λ v e. grouped_told m l.i true _ _ c.is_new.ensures (ap (λ (x : Bool). bool_beq x true) e) in
    elim c.if-is_new.branch [
      | then-is_new w ↦ omega (arith, w.n-is, count_yes (grouped m true) l.i (told _ w.if-is_new.true))
      | else-is_new w ↦ omega (arith, w.n-is, count_no (grouped m true) l.i (told _ w.if-is_new.false))
    ]
