-- `text_reader::points::default_alphabet` meets its contract: its constant is computed to be the paper's alphabet.
use Rattle.laws.proofs.Base.{refl}
use Rattle.alphabet.specs.Paper.{alphabet}
use Rattle.text_reader.proofs.points.default_alphabet.Goals as goal

pub invariant_of-result : goal.invariant_of-result
unfolding alphabet
invariant_of-result c = record { of_alphabet = refl }
