-- `text_reader::show` meets its contract: the array holds the whole septets, and what they are read as is shown.
use Rattle.laws.proofs.Base.{◌≡◌, ap, subst, ◌∙◌, List, ◌++◌, ℕ, ◌+◌, ◌*◌, ◌/◌, ◌≤◌, arith, length, take, drop, replicate, take_at, length-take-le}
use Rattle.laws.specs.Radix.{value, digits}
use Rattle.packing.proofs.Others.{unpacked_into_lem}
use Rattle.text.specs.Paper.{blank_cell, whole_of, shown, shown_with, shown_text}
use Rattle.text.proofs.Septets.{shown_few}
use Rattle.text_reader.specs.Inner.{Read}
use Rattle.text_reader.proofs.Made.{shown_made}
use Rattle.text_reader.proofs.show.Goals as goal

-- the array as it is made
abbrev zeros : List ℕ
zeros = replicate 93 0

pub read-n-requires : goal.read-n-requires
read-n-requires c =
    let content : List ℕ = c.args.content.now in
    let whole : ℕ = length content + length content / 7 in
    let room : length (take whole zeros) ≡ whole = length-take-le whole zeros (omega (arith, c.requires.0)) in
    let unpacked : List ℕ = c.unpack.new.septets in
    let rest : List ℕ = drop whole zeros in
    let unpacked_length : length unpacked ≡ whole = c.unpack.auto.septets ∙ room in
    let lent_part : take whole (unpacked ++ rest) ≡ unpacked = take_at unpacked rest whole unpacked_length in
    rw (lent_part, unpacked_length) (omega (arith, c.requires.0, c.requires.1))

pub returns : goal.returns
unfolding shown_with whole_of
returns c =
    let unpacked : List ℕ = c.unpack.new.septets in
    let size : length c.read-n.new.text ≡ 93 = c.read-n.auto.text ∙ c.requires.1 in
    let content : List ℕ = c.args.content.now in
    let whole : ℕ = length content + length content / 7 in
    let room : length (take whole zeros) ≡ whole = length-take-le whole zeros (omega (arith, c.requires.0)) in
    let unpacked_length : length unpacked ≡ whole = c.unpack.auto.septets ∙ room in
    let few : length (shown unpacked) ≤ 93 = omega (arith, shown_few unpacked, unpacked_length, c.requires.0) in
    let rest : List ℕ = drop whole zeros in
    let lent_part : take whole (unpacked ++ rest) ≡ unpacked = take_at unpacked rest whole unpacked_length in
    let reads : Read unpacked c.read-n.result c.read-n.new.text = subst (λ (l : List ℕ). Read l c.read-n.result c.read-n.new.text) lent_part c.read-n.ensures in
    let unpacked_whole : unpacked ≡ whole_of content = let o = content in let e : length o + length o / 7 ≡ 8 * length o / 7 = omega arith in c.unpack.ensures ∙ (unpacked_into_lem o (take whole zeros) room ∙ ap (λ (n : ℕ). digits 128 n (value 256 o)) (room ∙ e)) in
    let y = unpacked in
    let made =
    shown_made y c.read-n.new.text c.blank.new.text c.read-n.result blank_cell size few reads
    c.blank.ensures in
    (λ i. record { number = 0; characters = reads.count i; text = made i }) ∙ ap (λ (l : List ℕ). shown_text (shown l)) unpacked_whole
