-- `text_reader::read_text` meets its contract: each return is the first test of the order that holds, and the last shows the text.
use Rattle.laws.proofs.Base.{◌≡◌, sym, ap, ◌∙◌, true, List, ℕ, ◌-◌, ◌≤◌, min-le_left, arith, length, take, drop, length-take, ne_eqb}
use Rattle.std.proofs.lemmas.Result.{err_from_is_err_and}
use Rattle.refusals.proofs.Inverse.{number_of_positive}
use Rattle.sizes.specs.Paper.{whole_blocks}
use Rattle.sizes.proofs.Received.{whole_bounds}
use Rattle.page.specs.Paper.{Part}
use Rattle.page.specs.Coded.{part_of}
use Rattle.page.proofs.Received.{handed_content}
use Rattle.text.specs.Paper.{whole_of, shown, shown_text, reading_with}
use Rattle.text.proofs.Cases.{reading_13, reading_0, reading_refused, handed_right}
use Rattle.text_reader.proofs.read_text.Goals as goal

pub returns-then-text-ne-PLACES : goal.returns-then-text-ne-PLACES
unfolding reading_with
returns-then-text-ne-PLACES c = simp (ne_eqb _ _ c.if-text-ne-PLACES.true)

pub returns-in_err-content_answer : goal.returns-in_err-content_answer
returns-in_err-content_answer c =
    let e = c.in_err-content_answer in
    let p = err_from_is_err_and c.from_residual.result c.from_residual.ensures.1 in
    rw (p.1, p.2)
    (sym (reading_refused c.args.page.now c.args.received c.args.text.now _ c.if-text-ne-PLACES.false e.ensures (number_of_positive _)))

pub bounds-page-4 : goal.bounds-page-4
bounds-page-4 c =
    let page : List ℕ = c.args.page.now in
    let received : ℕ = c.args.received in
    let right : (length page ≡ 88) × (whole_blocks received ≡ true) = handed_right page received (sym c.in_ok-content_answer.ensures) in
    omega (arith, right.0)

pub returns-then-page-gt15 : goal.returns-then-page-gt15
returns-then-page-gt15 c =
    let page : List ℕ = c.args.page.now in
    let received : ℕ = c.args.received in
    let text : List ℕ = c.args.text.now in
    let right : (length page ≡ 88) × (whole_blocks received ≡ true) = handed_right page received (sym c.in_ok-content_answer.ensures) in
    sym (reading_13 page received text c.if-text-ne-PLACES.false right.0 right.1 c.if-page-gt15.true)

pub show-requires : goal.show-requires
show-requires c =
    let received : ℕ = c.args.received in
    let page : List ℕ = c.args.page.now in
    let right : (length page ≡ 88) × (whole_blocks received ≡ true) = handed_right page received (sym c.in_ok-content_answer.ensures) in
    let handed_back : c.content.result.now ≡ take (received - 6) (drop 6 page) = ap (λ (q : Part). q.octets) (c.content.ensures ∙ handed_content (part_of c.args.page) received right.0 right.1) in
    let n = received in
    let k : length (take (n - 6) (drop 6 page)) ≤ n - 6 = rw length-take (min-le_left (n - 6) (length (drop 6 page))) in
    (rw handed_back (omega (arith, k, whole_bounds n right.1)), c.if-text-ne-PLACES.false)

pub returns : goal.returns
returns c =
    let received : ℕ = c.args.received in
    let page : List ℕ = c.args.page.now in
    let right : (length page ≡ 88) × (whole_blocks received ≡ true) = handed_right page received (sym c.in_ok-content_answer.ensures) in
    let handed_back : c.content.result.now ≡ take (received - 6) (drop 6 page) = ap (λ (q : Part). q.octets) (c.content.ensures ∙ handed_content (part_of c.args.page) received right.0 right.1) in
    let text : List ℕ = c.args.text.now in
    c.show.ensures
    ∙ ap (λ (o : List ℕ). shown_text (shown (whole_of o))) handed_back
    ∙ sym (reading_0 page received text c.if-text-ne-PLACES.false right.0 right.1 c.if-page-gt15.false)
