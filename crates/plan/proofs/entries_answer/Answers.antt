-- `plan::entries_answer` meets its contract. The invariant: the lowest bad entry is that of the search among the entries ahead.
use Rattle.laws.proofs.Base.{◌≡◌, sym, ap, ◌∙◌, ◌+◌, length, arith, length-map}
use Rattle.laws.proofs.Search.{first_next, first_here, first_end}
use Rattle.plan.specs.Paper.{free, bad, fault_of}
use Rattle.plan.specs.Coded.{entry_of, entries_of}
use Rattle.plan.proofs.Answers.{none_found, found}
use Rattle.plan.proofs.Entries.{entry_at}
use Rattle.plan.proofs.entries_answer.Goals as goal

pub returns-then-is_bad : goal.returns-then-is_bad
returns-then-is_bad c =
    let es = c.args.entries.now in
    let l = c.loop-i in
    let n : length (entries_of es) ≡ length es = length-map es entry_of in
    let at = entry_at es l.i (omega arith) in
    let here = l.invariant ∙ first_here bad free (l.i + 1) (entries_of es) l.i (omega arith) (ap bad at ∙ sym c.is_bad.ensures ∙ c.if-is_bad.true) in
    sym (found (entries_of es) l.i here _ (c.fault_of.ensures ∙ ap fault_of (sym at)))

pub loop-i-preserved : goal.loop-i-preserved
loop-i-preserved c =
    let es = c.args.entries.now in
    let l = c.loop-i in
    let n : length (entries_of es) ≡ length es = length-map es entry_of in
    l.invariant
    ∙ first_next bad free (l.i + 1) (entries_of es) l.i (omega arith) (ap bad (entry_at es l.i (omega arith)) ∙ sym c.is_bad.ensures ∙ c.if-is_bad.false)

pub returns : goal.returns
returns c =
    let es = c.args.entries.now in
    let l = c.loop-i in
    let n : length (entries_of es) ≡ length es = length-map es entry_of in
    sym (none_found (entries_of es) (l.invariant ∙ first_end bad (l.i + 1) (entries_of es) l.i (omega arith)))
