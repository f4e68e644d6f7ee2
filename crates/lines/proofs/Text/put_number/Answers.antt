-- `Text::put_number` meets its contract: the fewest digits of a number are its decimal.
use Rattle.laws.proofs.Base.{ap, ◌∙◌, List, ℕ, ◌≤◌}
use Rattle.lines.specs.Paper.{behind}
use Rattle.lines.proofs.Numbers.{spelled_digits, twenty_digits}
use Rattle.lines.proofs.Text.put_number.Goals as goal

pub returns-clause-put : goal.returns-clause-put
returns-clause-put c =
    let few : c.decimal-k.result ≤ 20 = twenty_digits c.decimal-k.result c.args.number c.ranges.number.fits c.decimal-k.ensures.len in
    let l = c.args.self.now in
    let number = c.decimal-k.ensures.digits ∙ spelled_digits 19 c.decimal-k.result c.args.number few c.decimal-k.ensures.len in
    c.put.ensures.put ∙ ap (λ (s : List ℕ). behind s l.end l.memory.now) number
