-- The readable cross-check of packing: every bit keeps its place.
use Rattle.laws.proofs.Base.{sym, ◌∙◌, ◌*◌, ◌/◌, arith, lit<, length}
use Rattle.laws.specs.Radix.{value}
use Rattle.laws.proofs.Bits.{bit_digits, bit_value}
use Rattle.text.specs.Paper.{packed, whole_of}
use Rattle.text_back.specs.Claims.{PackedBits, WholeBits}

pub packed_bits : PackedBits
unfolding packed
packed_bits s low m h = bit_digits 8 82 (value 128 s) m (lit< tt) (omega arith) ∙ sym (bit_value 7 m s (lit< tt) low)

pub whole_bits : WholeBits
unfolding whole_of
whole_bits o low m h = bit_digits 7 (8 * length o / 7) (value 256 o) m (lit< tt) (omega arith) ∙ sym (bit_value 8 m o (lit< tt) low)
