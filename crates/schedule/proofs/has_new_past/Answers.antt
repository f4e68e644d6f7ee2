-- `schedule::has_new_past` meets its contract. The invariant: no slot passed so far is past End with its new bit set.
use Rattle.laws.proofs.Base.{sym, ◌∙◌, true, ◌≤◌, arith}
use Rattle.laws.proofs.Upto.{some_none, some_at}
use Rattle.schedule.specs.Paper.{new_past, end as end_of}
use Rattle.schedule.proofs.News.{new_past_from}
use Rattle.schedule.proofs.has_new_past.Goals as goal

pub returns-then-is_new : goal.returns-then-is_new
returns-then-is_new c =
    let m = c.args.message.now in
    let i = c.loop-i.i in
    let past : end_of m ≤ i = omega arith in
    sym (some_at (new_past m) 48 i (omega arith) (new_past_from m i true past (sym c.if-is_new.true ∙ c.is_new.ensures)))

pub returns : goal.returns
returns c =
    let m = c.args.message.now in
    sym (some_none (new_past m) 48 (λ k h. c.loop-i.invariant k (omega arith)))
