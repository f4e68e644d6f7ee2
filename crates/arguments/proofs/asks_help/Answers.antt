-- `arguments::asks_help` meets its contract.
use Rattle.laws.proofs.Base.{◌∙◌, arith, eq-eqb}
use Rattle.lines.specs.Paper.{ascii}
use Rattle.arguments.specs.Paper.{help_asked}
use Rattle.arguments.proofs.Same.{pointwise_same}
use Rattle.arguments.proofs.asks_help.Goals as goal

pub returns : goal.returns
unfolding help_asked ascii
returns c =
    let e = c.eq.ensures ∙ pointwise_same c.args.first.now c.as_slice.result.now in
    let bytes = c.as_slice.ensures in
    rw (eq-eqb c.args.count 2 (omega arith)) (rw bytes at e)
