-- `text_writer::filling::add_padding` meets its contract. The invariant: what is still to be added leaves the same.
use Rattle.laws.proofs.Base.{◌≡◌, refl, sym, ap, ◌∙◌, List, [], ◌∷◌, ◌++◌, ℕ, suc, ◌+◌, ◌-◌, ◌<◌, arith, replicate}
use Rattle.text.specs.Paper.{cr}
use Rattle.text_writer.specs.Inner.{AddableAll, added_all}
use Rattle.text_writer.proofs.Adding.{rest_addable, rest_added, front_addable, first_addable, one_added}
use Rattle.text_writer.proofs.filling.add_padding.Goals as goal

-- one CR, and the others
one_more : (i : ℕ) → i < 93 → replicate (93 - i) cr ≡ cr ∷ replicate (93 - (i + 1)) cr
one_more i h =
    let e : 93 - i ≡ suc (93 - (i + 1)) = omega arith in
    rw e

pub add-filling-requires : goal.add-filling-requires
add-filling-requires c =
    let rest : List ℕ = replicate (93 - (c.loop.counter + 1)) cr in
    let turn : AddableAll ((cr ∷ []) ++ rest) c.loop.filling c.loop.octets = rw (one_more c.loop.counter c.loop-test.true) at c.loop.invariant.0 in
    let l = c.loop in
    first_addable (cr ∷ []) l.filling l.octets cr [] refl (front_addable (cr ∷ []) rest l.filling l.octets turn)

pub loop-preserved : goal.loop-preserved
loop-preserved c =
    let rest : List ℕ = replicate (93 - (c.loop.counter + 1)) cr in
    let turn : AddableAll ((cr ∷ []) ++ rest) c.loop.filling c.loop.octets = rw (one_more c.loop.counter c.loop-test.true) at c.loop.invariant.0 in
    let l = c.loop in
    let e = one_added (cr ∷ []) l.filling l.octets cr refl c.add-filling.ensures in (
      rest_addable (cr ∷ []) rest l.filling l.octets _ _ e turn,
      l.invariant.1
          ∙ ap (λ (ss : List ℕ). added_all ss l.filling l.octets) (one_more l.counter c.loop-test.true)
          ∙ rest_added (cr ∷ []) rest l.filling l.octets _ _ e,
      c.add-filling.auto.octets ∙ l.invariant.2,
    )

pub returns : goal.returns
unfolding added_all
returns c =
    let l = c.loop in
    let none : 93 - l.counter ≡ 0 = omega (arith, c.loop-test.false) in
    sym (l.invariant.1 ∙ rw none)
