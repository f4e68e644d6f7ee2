-- `alphabet::pair_point_by` meets its contract: its constant is computed to be the rows of the paper's pairs.
use Rattle.laws.proofs.Base.{ap, ◌∙◌, ◌%◌}
use Rattle.laws.specs.Search.{lookup}
use Rattle.alphabet.specs.Paper.{extension}
use Rattle.alphabet.specs.Inner.{column, pairs}
use Rattle.alphabet.proofs.Laws.{rows_point}
use Rattle.alphabet.proofs.pair_point_by.Goals as goal

pub returns : goal.returns
unfolding extension
returns c =
    let a = c.args in
    c.look_up.ensures ∙ ap (lookup (column 0) (column 1) pairs (a.septet % 128)) c.code_point_by-own.ensures ∙ rows_point (a.septet % 128) _
