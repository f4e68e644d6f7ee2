-- `text_writer::filling::pack` meets its contract: the text, its padding and the zero bits fill the octets.
use Rattle.laws.proofs.Base.{◌≡◌, sym, ap, subst, ◌∙◌, ◌-◌, ◌≤◌, ℕ, arith, length, replicate}
use Rattle.text.specs.Paper.{cr, unpadded}
use Rattle.text_writer.specs.Inner.{AddableAll, added_all}
use Rattle.text_writer.proofs.Adding.{text_addable, padding_addable, zero_addable, text_packed}
use Rattle.text_writer.proofs.filling.pack.Goals as goal

pub add_text-begun-requires : goal.add_text-begun-requires
add_text-begun-requires c =
    let short : length (unpadded c.args.text.now) ≤ 93 = omega (arith, c.requires.short, c.requires.known.counted) in
    record {
      known = c.requires.known.known;
      addable = text_addable c.args.text.now c.args.octets.now short c.requires.room;
    }

pub add_padding-padded-requires : goal.add_padding-padded-requires
add_padding-padded-requires c =
    let padding : 93 - c.args.count ≡ 93 - length (unpadded c.args.text.now) = ap (λ (n : ℕ). 93 - n) c.requires.known.counted in
    let short : length (unpadded c.args.text.now) ≤ 93 = omega (arith, c.requires.short, c.requires.known.counted) in
    subst (λ (n : ℕ). AddableAll (replicate n cr) c.add_text-begun.result c.add_text-begun.new.octets) (sym padding)
    (padding_addable c.args.text.now c.args.octets.now short c.requires.room _ _ c.add_text-begun.ensures)

pub add-requires : goal.add-requires
add-requires c =
    let short : length (unpadded c.args.text.now) ≤ 93 = omega (arith, c.requires.short, c.requires.known.counted) in
    let padding : 93 - c.args.count ≡ 93 - length (unpadded c.args.text.now) = ap (λ (n : ℕ). 93 - n) c.requires.known.counted in
    let padded : record { filling = c.add_padding-padded.result; octets = c.add_padding-padded.new.octets } ≡ added_all (replicate (93 - length (unpadded c.args.text.now)) cr) c.add_text-begun.result c.add_text-begun.new.octets = c.add_padding-padded.ensures ∙ ap (λ (n : ℕ). added_all (replicate n cr) c.add_text-begun.result c.add_text-begun.new.octets) padding in
    zero_addable c.args.text.now c.args.octets.now short c.requires.room _ _ c.add_text-begun.ensures _ _ padded

pub returns : goal.returns
returns c =
    let short : length (unpadded c.args.text.now) ≤ 93 = omega (arith, c.requires.short, c.requires.known.counted) in
    let padding : 93 - c.args.count ≡ 93 - length (unpadded c.args.text.now) = ap (λ (n : ℕ). 93 - n) c.requires.known.counted in
    let padded : record { filling = c.add_padding-padded.result; octets = c.add_padding-padded.new.octets } ≡ added_all (replicate (93 - length (unpadded c.args.text.now)) cr) c.add_text-begun.result c.add_text-begun.new.octets = c.add_padding-padded.ensures ∙ ap (λ (n : ℕ). added_all (replicate n cr) c.add_text-begun.result c.add_text-begun.new.octets) padding in
    text_packed c.args.text.now c.args.octets.now short c.requires.room _ _ c.add_text-begun.ensures _ _ padded _ _ c.add.ensures
