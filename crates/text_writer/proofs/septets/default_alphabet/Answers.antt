-- `text_writer::septets::default_alphabet` meets its contract: its constant is computed to list what each code point is found as.
use Rattle.laws.proofs.Base.{refl}
use Rattle.alphabet.specs.Paper.{alphabet, septet_of}
use Rattle.text_writer.proofs.septets.default_alphabet.Goals as goal

pub invariant_of-result : goal.invariant_of-result
unfolding septet_of alphabet
invariant_of-result c = record { of_alphabet = refl }
