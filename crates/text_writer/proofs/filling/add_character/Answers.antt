-- `text_writer::filling::add_character` meets its contract: the tables' entries tell which septets there are.
use Rattle.laws.proofs.Base.{◌≡◌, sym, ap, ◌∙◌, [], ◌∷◌, ℕ, ◌<◌, ◌≤◌, arith}
use Rattle.alphabet.specs.Paper.{escape, septet_of, pair_septet}
use Rattle.text.specs.Paper.{septets_of}
use Rattle.text_writer.proofs.Adding.{first_addable, one_added, next_addable, two_added}
use Rattle.text_writer.proofs.Foreign.{spelled_own, spelled_pair, known_pair}
use Rattle.text_writer.proofs.filling.add_character.Goals as goal

pub add-requires : goal.add-requires
add-requires c =
    let found : c.of-own.result ≡ septet_of c.args.code = c.of-own.ensures in
    let one : septets_of c.args.code ≡ c.of-own.result ∷ [] = spelled_own c.args.code (omega (arith, found, c.if-own-lt128.true)) ∙ ap (λ (x : ℕ). x ∷ []) (sym found) in
    first_addable (septets_of c.args.code) c.args.filling c.args.octets.now _ [] one c.requires.addable

pub returns-then-own-lt128 : goal.returns-then-own-lt128
returns-then-own-lt128 c =
    let found : c.of-own.result ≡ septet_of c.args.code = c.of-own.ensures in
    let one : septets_of c.args.code ≡ c.of-own.result ∷ [] = spelled_own c.args.code (omega (arith, found, c.if-own-lt128.true)) ∙ ap (λ (x : ℕ). x ∷ []) (sym found) in
    one_added (septets_of c.args.code) c.args.filling c.args.octets.now _ one c.add.ensures

pub add-begun-requires : goal.add-begun-requires
add-begun-requires c =
    let absent : 128 ≤ septet_of c.args.code = omega (arith, c.of-own.ensures, c.if-own-lt128.false) in
    let paired : pair_septet c.args.code < 128 = known_pair c.args.code c.requires.known absent in
    let two : septets_of c.args.code ≡ escape ∷ pair_septet c.args.code ∷ [] = spelled_pair c.args.code absent paired in
    first_addable (septets_of c.args.code) c.args.filling c.args.octets.now escape (pair_septet c.args.code ∷ []) two c.requires.addable

pub add-requires-2 : goal.add-requires-2
add-requires-2 c =
    let absent : 128 ≤ septet_of c.args.code = omega (arith, c.of-own.ensures, c.if-own-lt128.false) in
    let paired : pair_septet c.args.code < 128 = known_pair c.args.code c.requires.known absent in
    let two : septets_of c.args.code ≡ escape ∷ pair_septet c.args.code ∷ [] = spelled_pair c.args.code absent paired in
    let second : c.pair_septet-paired.result ≡ pair_septet c.args.code = c.pair_septet-paired.ensures in
    let both : septets_of c.args.code ≡ escape ∷ c.pair_septet-paired.result ∷ [] = two ∙ ap (λ (x : ℕ). escape ∷ x ∷ []) (sym second) in
    next_addable (septets_of c.args.code) c.args.filling c.args.octets.now escape c.pair_septet-paired.result both _ _
    c.add-begun.ensures c.requires.addable

pub returns : goal.returns
returns c =
    let absent : 128 ≤ septet_of c.args.code = omega (arith, c.of-own.ensures, c.if-own-lt128.false) in
    let paired : pair_septet c.args.code < 128 = known_pair c.args.code c.requires.known absent in
    let two : septets_of c.args.code ≡ escape ∷ pair_septet c.args.code ∷ [] = spelled_pair c.args.code absent paired in
    let second : c.pair_septet-paired.result ≡ pair_septet c.args.code = c.pair_septet-paired.ensures in
    let both : septets_of c.args.code ≡ escape ∷ c.pair_septet-paired.result ∷ [] = two ∙ ap (λ (x : ℕ). escape ∷ x ∷ []) (sym second) in
    two_added (septets_of c.args.code) c.args.filling c.args.octets.now escape c.pair_septet-paired.result both _ _
    c.add-begun.ensures c.add-2.ensures
