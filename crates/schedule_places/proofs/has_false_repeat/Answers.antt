-- `schedule_places::has_false_repeat` meets its contract. The invariant: no slot passed so far has a false repeat.
use Rattle.laws.proofs.Base.{◌≡◌, sym, ap, ◌∙◌, ℕ, ◌-◌, arith}
use Rattle.laws.proofs.Upto.{some_none, some_at}
use Rattle.schedule.specs.Paper.{Told, again}
use Rattle.schedule.specs.Coded.{told_of}
use Rattle.schedule.specs.Inner.{told_by}
use Rattle.schedule.proofs.Repeats.{false_zero, false_late, false_other}
use Rattle.schedule_places.proofs.has_false_repeat.Goals as goal

pub returns-then-n-eq0 : goal.returns-then-n-eq0
returns-then-n-eq0 c =
    let tells : ℕ → Told = let a = c.args in told_by a.message.now a.places.now in
    let repeats : tells c.loop-i.i ≡ again c.in-Repeat.number = sym c.told_at-told.ensures ∙ ap told_of c.in-Repeat.is in
    let l = c.loop-i in
    sym (some_at _ _ l.i (omega arith) (false_zero tells l.i _ repeats c.if-n-eq0.true))

pub returns-then-n-i : goal.returns-then-n-i
returns-then-n-i c =
    let tells : ℕ → Told = let a = c.args in told_by a.message.now a.places.now in
    let repeats : tells c.loop-i.i ≡ again c.in-Repeat.number = sym c.told_at-told.ensures ∙ ap told_of c.in-Repeat.is in
    let l = c.loop-i in
    sym (some_at _ _ l.i (omega arith) (false_late tells l.i _ repeats (omega (arith, c.if-n-i.true))))

pub returns-then-not-firsts-n : goal.returns-then-not-firsts-n
returns-then-not-firsts-n c =
    let tells : ℕ → Told = let a = c.args in told_by a.message.now a.places.now in
    let repeats : tells c.loop-i.i ≡ again c.in-Repeat.number = sym c.told_at-told.ensures ∙ ap told_of c.in-Repeat.is in
    let l = c.loop-i in
    sym
    (some_at _ _ l.i (omega arith)
    (false_other tells l.i _ repeats (sym (c.requires.1 (c.in-Repeat.number - 1) (omega arith)) ∙ c.if-not-firsts-n.true)))

pub returns : goal.returns
returns c = sym (some_none _ _ (λ k h. c.loop-i.invariant k (omega arith)))
