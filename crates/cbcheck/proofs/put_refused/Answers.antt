-- `cbcheck::put_refused` meets its contract: the numbers, the words, and the line's end.
use Rattle.laws.proofs.Base.{◌≡◌, ne_eqb}
use Rattle.std.proofs.Common.{rules}
use Rattle.refusals.specs.Number.{number_of}
use Rattle.refusals.proofs.Inverse.{number_of_positive}
use Rattle.lines.proofs.Texts.{and_last, and_others}
use Rattle.cbcheck.specs.Paper.{numbers, reason, said}
use Rattle.cbcheck.proofs.put_refused.Goals as goal

pub returns-clause-put : goal.returns-clause-put
unfolding said
returns-clause-put c =
    let a = c.args in
    let answer : c.from-answer.result ≡ number_of a.fault.refusal = search rules in
    rw (ne_eqb _ 0 (number_of_positive a.fault.refusal))
    (and_others (numbers _ _ _) _ _ _ (rw answer at c.put_numbers.ensures.put)
    (and_others (reason _ _ _) _ _ _ c.put_reason.ensures.put (and_last _ _ _ c.put_octet.ensures.put)))
