-- Laws of texts put one behind the other.
use Rattle.laws.proofs.Base.{◌≡◌, refl, ap, ◌∙◌, List, [], ◌∷◌, ◌++◌, append_assoc, ℕ, ◌+◌, ◌≤◌, le_refl, arith, length, length-append}
use Rattle.lines.specs as defs
use defs.Paper.{PutLeft, behind, all_behind, flat}
use defs.Inner.{Puts}
use Rattle.lines.proofs as own
use own.Behind.{length_behind, puts_behind, puts_none, puts_wider, puts_then}

-- one text, and others behind it
pub and_then : (s : List ℕ) (ss : List (List ℕ)) (n : ℕ) (t : List ℕ) {one left : PutLeft} → one ≡ behind s n t → left ≡ all_behind ss one.end one.text
    → left ≡ all_behind (s ∷ ss) n t
unfolding all_behind
and_then s ss n t e h = h ∙ ap (λ (x : PutLeft). all_behind ss x.end x.text) e

-- one text alone
pub and_last : (s : List ℕ) (n : ℕ) (t : List ℕ) {left : PutLeft} → left ≡ behind s n t → left ≡ all_behind (s ∷ []) n t
unfolding all_behind
and_last s n t e = e

-- some texts, and others behind them
pub and_others : (rs ss : List (List ℕ)) (n : ℕ) (t : List ℕ) {some left : PutLeft} → some ≡ all_behind rs n t → left ≡ all_behind ss some.end some.text
    → left ≡ all_behind (rs ++ ss) n t
unfolding all_behind
and_others [] ss n t e h = h ∙ ap (λ (x : PutLeft). all_behind ss x.end x.text) e
and_others (r ∷ rs) ss n t e h = and_others rs ss (behind r n t).end (behind r n t).text e h

-- the memory is as long as it was
length_texts : (ss : List (List ℕ)) (n : ℕ) (t : List ℕ) → length (all_behind ss n t).text ≡ length t
unfolding all_behind
length_texts [] n t = refl
length_texts (s ∷ ss) n t = length_texts ss (behind s n t).end (behind s n t).text ∙ length_behind s n t

pub length_all : (ss : List (List ℕ)) (n : ℕ) (t : List ℕ) {left : PutLeft} → left ≡ all_behind ss n t → length left.text ≡ length t
length_all ss n t e = ap (λ (x : PutLeft). length x.text) e ∙ length_texts ss n t

-- texts for which there is room are put as one
puts_texts : (ss : List (List ℕ)) (n : ℕ) (t : List ℕ) → n + length (flat ss) ≤ length t
    → Puts (flat ss) (length (flat ss)) n t (all_behind ss n t).text (all_behind ss n t).end
unfolding all_behind flat
puts_texts [] n t h = puts_none n t
puts_texts (s ∷ ss) n t h =
    let both = length-append s (flat ss) in
    let one = behind s n t in
    let p = puts_behind s n t (length s) one.end one.text refl (le_refl (length s)) (omega arith) in
    let rest = puts_texts ss one.end one.text (omega (arith, length_behind s n t, p.room)) in
    rw both (puts_then p rest)

pub puts_all : (ss : List (List ℕ)) (n : ℕ) (t : List ℕ) (most : ℕ) {left : PutLeft} → left ≡ all_behind ss n t → length (flat ss) ≤ most → n + most ≤ length t
    → Puts (flat ss) most n t left.text left.end
puts_all ss n t most e few room = rw e (puts_wider most few (puts_texts ss n t (omega arith)))

pub flat_append : (rs ss : List (List ℕ)) → flat (rs ++ ss) ≡ flat rs ++ flat ss
unfolding flat
flat_append [] ss = refl
flat_append (r ∷ rs) ss = rw (flat_append rs ss, append_assoc)
