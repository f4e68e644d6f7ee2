-- `cbtext::put_body` meets its contract: the text reader's answer tells which form the line has.
use Rattle.std.proofs.Common.{rules}
use Rattle.laws.proofs.Base.{◌≡◌, sym, ap, ◌∙◌, true, List, ℕ, ◌-◌, arith, length, take, drop, replicate, length-replicate, length-take-le}
use Rattle.std.specs.Prelude.{Result, Ok}
use Rattle.refusals.specs.declared.Refusal.{Refusal}
use Rattle.refusals.specs.Number.{number_of}
use Rattle.refusals.proofs.Inverse.{number_of_positive}
use Rattle.sizes.specs.Paper.{whole_blocks}
use Rattle.page.specs.Paper.{Part}
use Rattle.page.specs.Coded.{part_of}
use Rattle.page.proofs.Received.{handed_content}
use Rattle.text.specs.Paper.{reading}
use Rattle.text_reader.specs.Coded.{reading_of}
use Rattle.cbtext.specs.Inner.{hex_texts, body_texts}
use Rattle.cbtext.proofs.Body.{Reads, reads_text, reads_none}
use Rattle.cbtext.proofs.put_body.Goals as goal

-- the array of code points as it is made
abbrev zeros : List ℕ
zeros = replicate 93 0

zeros_size : length zeros ≡ 93
zeros_size = length-replicate {A = ℕ} 93 0

-- characters are answered where the page is a text
reads : (p : List ℕ) (n : ℕ) (points : List ℕ) (g : Result ℕ Refusal) (count : ℕ) → length p ≡ 88 → whole_blocks n ≡ true
    → g ≡ Ok count → reading_of g points ≡ reading p n zeros → Reads p n points count
reads p n points g count long blocks q e = reads_text p n zeros points zeros_size long blocks count (ap (λ (g : Result ℕ Refusal). reading_of g points) (sym q) ∙ e)

pub slice_bounds-points-end : goal.slice_bounds-points-end
slice_bounds-points-end c =
    let long : length c.args.page.now ≡ 88 = search rules in
    let reads = reads _ _ _ _ _ long c.requires c.in-Ok.is c.read_text-got.ensures in
    omega (arith, reads.few, c.read_text-got.auto.text, zeros_size)

pub slice_bounds-put_text-end : goal.slice_bounds-put_text-end
slice_bounds-put_text-end c =
    let long : length c.args.page.now ≡ 88 = search rules in
    let reads = reads _ _ _ _ _ long c.requires c.in-Ok.is c.read_text-got.ensures in
    sym (length-take-le _ _ (omega (arith, reads.few, c.read_text-got.auto.text, zeros_size)))

pub returns-in-Ok-clause-put : goal.returns-in-Ok-clause-put
returns-in-Ok-clause-put c =
    let long : length c.args.page.now ≡ 88 = search rules in
    let reads = reads _ _ _ _ _ long c.requires c.in-Ok.is c.read_text-got.ensures in
    rw reads.shows c.put_text.ensures.put

pub returns-clause-put : goal.returns-clause-put
returns-clause-put c =
    let long : length c.args.page.now ≡ 88 = search rules in
    let content : List ℕ = take (c.args.received - 6) (drop 6 c.args.page.now) in
    let points : List ℕ = c.read_text-got.new.text in
    let refusal = c.in_default.field-0 in
    let foreign : body_texts c.args.page.now c.args.received ≡ hex_texts content =
    reads_none c.args.page.now c.args.received zeros points zeros_size long c.requires (number_of refusal) (number_of_positive refusal)
    (ap (λ (g : Result ℕ Refusal). reading_of g points) (sym c.in_default.is) ∙ c.read_text-got.ensures) in
    let handed : c.content.result.now ≡ content = ap (λ (q : Part). q.octets) (c.content.ensures ∙ handed_content (part_of c.args.page) c.args.received long c.requires) in
    rw (foreign, ← handed) c.put_content.ensures.put
