-- `alphabet::septet` meets its contract: its constant is computed to list what each code point is found as.
use Rattle.laws.proofs.Base.{refl, ◌∙◌}
use Rattle.alphabet.specs.Paper.{alphabet, septet_of}
use Rattle.alphabet.specs.Inner.{inverse}
use Rattle.alphabet.proofs.Laws.{septet_by_lem}
use Rattle.alphabet.proofs.septet.Goals as goal

pub returns : goal.returns
unfolding septet_of alphabet
returns c = c.septet_by.ensures ∙ septet_by_lem inverse c.args.code refl
