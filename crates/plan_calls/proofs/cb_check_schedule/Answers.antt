-- `plan_calls::cb_check_schedule` meets its contract: what the call that judges each slot returns.
use Rattle.laws.proofs.Base.{refl, ap, ◌∙◌, replicate}
use Rattle.calls.specs.Paper.{CallLeft}
use Rattle.plan_calls.proofs.Answers.{slots_returned}
use Rattle.plan_calls.proofs.cb_check_schedule.Goals as goal

pub returns : goal.returns
returns c =
    let a = c.args in
    ap (λ (l : CallLeft). l.returned) c.cb_check_slots.ensures
    ∙ slots_returned a.current.now a.previous.now a.message.now a.received (replicate 48 0) refl
