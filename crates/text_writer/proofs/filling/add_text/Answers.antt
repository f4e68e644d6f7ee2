-- `text_writer::filling::add_text` meets its contract. The invariant: what is still to be added leaves the same.
use Rattle.laws.proofs.Base.{◌≡◌, sym, ap, subst, ◌∙◌, [], ◌++◌, List, ℕ, ◌+◌, ◌<◌, add-one, arith, length, get_or, drop, drop-cons, drop_of_length-le}
use Rattle.text.specs.Paper.{septets_of, unpadded}
use Rattle.text_writer.specs.Inner.{AddableAll, added_all}
use Rattle.text_writer.proofs.Adding.{rest_addable, rest_added, front_addable}
use Rattle.text_writer.proofs.Foreign.{known_at}
use Rattle.text_writer.proofs.filling.add_text.Goals as goal

-- one character, and the others
one_more : (t : List ℕ) (i : ℕ) → i < length t → unpadded (drop i t) ≡ septets_of (get_or t i 0) ++ unpadded (drop (i + 1) t)
unfolding unpadded
one_more t i h = rw (drop-cons t i 0 h, add-one i)

pub add_character-filling-requires : goal.add_character-filling-requires
add_character-filling-requires c =
    let text : List ℕ = c.args.text.now in
    let i : ℕ = c.loop-code.code-index in
    let within : i < length text = c.loop-code-test.true in
    let turn : AddableAll (septets_of (get_or text i 0) ++ unpadded (drop (i + 1) text)) c.loop-code.filling c.loop-code.octets = subst (λ (ss : List ℕ). AddableAll ss c.loop-code.filling c.loop-code.octets) (one_more text i within) c.loop-code.invariant.0 in
    let l = c.loop-code in
    let p = c.requires in
    record {
      known = known_at text i within p.known;
      addable = front_addable (septets_of (get_or text i 0)) (unpadded (drop (i + 1) text)) l.filling l.octets turn;
    }

pub loop-code-preserved : goal.loop-code-preserved
loop-code-preserved c =
    let text : List ℕ = c.args.text.now in
    let i : ℕ = c.loop-code.code-index in
    let within : i < length text = c.loop-code-test.true in
    let turn : AddableAll (septets_of (get_or text i 0) ++ unpadded (drop (i + 1) text)) c.loop-code.filling c.loop-code.octets = subst (λ (ss : List ℕ). AddableAll ss c.loop-code.filling c.loop-code.octets) (one_more text i within) c.loop-code.invariant.0 in
    let l = c.loop-code in
    let a = septets_of (get_or text i 0) in
    let rest = unpadded (drop (i + 1) text) in
    let e = c.add_character-filling.ensures in (
      rest_addable a rest l.filling l.octets _ _ e turn,
      l.invariant.1
          ∙ ap (λ (ss : List ℕ). added_all ss l.filling l.octets) (one_more text i within)
          ∙ rest_added a rest l.filling l.octets _ _ e,
      c.add_character-filling.auto.octets ∙ l.invariant.2,
    )

pub returns : goal.returns
unfolding unpadded added_all
returns c =
    let i : ℕ = c.loop-code.code-index in
    let l = c.loop-code in
    let t = c.args.text.now in
    let none : drop l.code-index t ≡ [] = drop_of_length-le t {i = l.code-index} (omega (arith, c.loop-code-test.false)) in
    sym (l.invariant.1 ∙ rw none)
