-- Text of listed characters is accepted, and so comes back; and text of the alphabet alone is spelled as before.
use Rattle.laws.proofs.Base.{◌≡◌, refl, sym, ap, ◌∙◌, false, List, [], ◌∷◌, ℕ, suc, ◌<◌, arith, eqb, length, get_or, eqb-true, eqb-false, eq-eqb, ne_eqb, le-ltb}
use Rattle.laws.proofs.Tests.{true_or_false}
use Rattle.alphabet.specs.Paper.{alphabet, code_point, septet_of, no_septet, escape, extension, pair_septet}
use Rattle.alphabet.proofs.Laws.{undoes, undoes_pairs}
use Rattle.page.specs.Paper.{Heading}
use Rattle.text.specs.Paper.{septets_of, unpadded, foreign, written_page}
use Rattle.text.proofs.Septets.{Spelled, by_own, by_pair, by_none, spelled}
use Rattle.text_back.specs.Claims.{Listed, in_alphabet, in_extension, Sendable, ListedBack, PlainSpelled}
use Rattle.text_back.proofs.Back.{text_back_whole}

-- what 1B by itself reads as, a space, has a septet too
space_listed : septet_of (code_point escape) ≡ 0x20
unfolding septet_of code_point alphabet
space_listed = refl

known : (c : ℕ) → Listed c → (septet_of c ≡ no_septet) → (pair_septet c ≡ no_septet) → ⊥
unfolding extension
known c (in_alphabet s h e) own pair =
    true_or_false (eqb s escape)
    (λ q. omega (arith, sym (ap septet_of (ap code_point (sym (eqb-true s escape q)) ∙ e)) ∙ space_listed, own))
    (λ q. omega (arith, undoes s h (eqb-false s escape q), ap septet_of e, own, h))
known c (in_extension i h e) own pair =
    let w = undoes_pairs i h in
    omega (arith, w.septet, w.finds, ap pair_septet e, pair)

none_foreign : (t : List ℕ) → ((i : ℕ) → i < length t → Listed (get_or t i 0)) → foreign t ≡ false
unfolding foreign
none_foreign [] each = refl
none_foreign (c ∷ t) each =
    let rest = none_foreign t (λ i h. each (suc i) (omega arith)) in
    true_or_false (eqb (septet_of c) no_septet)
    (λ e.
    let ne : pair_septet c ≡ no_septet → ⊥ = known c (each 0 (omega arith)) (eqb-true (septet_of c) no_septet e) in
    rw (e, ne_eqb (pair_septet c) no_septet ne) rest)
    (λ e. rw e rest)

accepted : (h : Heading) (t p : List ℕ) → Sendable h t p → (written_page h t p).number ≡ 0
unfolding written_page
accepted h t p s =
    simp
    (eq-eqb (length p) 88 s.room, le-ltb 15 h.scheme s.scheme, s.parameter, none_foreign t s.listed, le-ltb 93 (length (unpadded t)) s.short, s.open_ended)

pub listed_back : ListedBack
listed_back h t p u s size =
    let z = accepted h t p s in
    (z, text_back_whole h t p u z size)

own_septet : (c : ℕ) → (septet_of c ≡ no_septet → ⊥) → Spelled c → septets_of c ≡ septet_of c ∷ []
own_septet c ne (by_own _ e) = e
own_septet c ne (by_pair w _) = absurd (ne w.apart)
own_septet c ne (by_none e _ _) = absurd (ne e)

pub plain_spelled : PlainSpelled
unfolding unpadded
plain_spelled [] each = refl
plain_spelled (c ∷ t) each =
    rw (own_septet c (each 0 (omega arith)) (spelled c)) (ap (◌∷◌ (septet_of c)) (plain_spelled t (λ i h. each (suc i) (omega arith))))
