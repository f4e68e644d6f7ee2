-- `checker::check_schedule` meets its contract: what is found for the plans checks the message as they do.
use Rattle.laws.proofs.Base.{refl, ap, ◌∙◌, List, ℕ, replicate}
use Rattle.plan.specs.Coded.{plan_of}
use Rattle.checker_plans.specs.Inner.{Plans}
use Rattle.checker.specs.Paper.{SlotsChecked}
use Rattle.checker.specs.Inner.{slots_beside}
use Rattle.checker.proofs.Telling.{slots_beside_lem, slots_checked}
use Rattle.checker.proofs.check_schedule.Goals as goal

-- the memory for the verdicts, of which nothing is handed on
abbrev fresh : List ℕ
fresh = replicate 48 0

pub returns : goal.returns
returns c =
    let a = c.args in
    ap (λ (l : SlotsChecked). l.checked)
    (c.check_slots.ensures
    ∙ ap (λ (b : Plans). slots_beside b a.message.now a.received fresh) c.beside-plans.ensures
    ∙ slots_beside_lem (plan_of a.current) (plan_of a.previous) a.message.now a.received fresh)
    ∙ slots_checked (plan_of a.current) (plan_of a.previous) a.message.now a.received fresh refl
