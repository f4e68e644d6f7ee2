-- `alphabet::pair_septet` meets its contract: its constant is computed to be the rows of the paper's pairs.
use Rattle.laws.proofs.Base.{◌≡◌, ◌∙◌, ⊎_elim, arith}
use Rattle.alphabet.specs.Paper.{extension, pair_septet}
use Rattle.alphabet.proofs.Laws.{rows_septet, found_pair}
use Rattle.alphabet.proofs.pair_septet.Goals as goal

pub overflow_cast-result : goal.overflow_cast-result
unfolding extension
overflow_cast-result c =
    let found : c.look_up.result ≡ pair_septet c.args.code = c.look_up.ensures ∙ rows_septet c.args.code in
    ⊎_elim (λ e. omega (arith, found, e)) (λ w. omega (arith, found, w.septet)) (found_pair c.args.code)

-- what is looked up
pub returns : goal.returns
unfolding extension
returns c = c.look_up.ensures ∙ rows_septet c.args.code
