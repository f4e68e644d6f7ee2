-- `plan::plan_answer` meets its contract: past the count's test, what is said of the entries.
use Rattle.laws.proofs.Base.{sym, ap, ◌∙◌, arith}
use Rattle.laws.proofs.Map.{take_map}
use Rattle.plan.specs.Inner.{entries_answer}
use Rattle.plan.specs.Coded.{entry_of, plan_of}
use Rattle.plan.proofs.Answers.{by_entries}
use Rattle.plan.proofs.plan_answer.Goals as goal

pub returns : goal.returns
returns c =
    let p = c.args.plan in
    c.entries_answer.ensures ∙ ap entries_answer (sym (take_map entry_of p.count p.entries)) ∙ by_entries (plan_of p) (omega arith)
