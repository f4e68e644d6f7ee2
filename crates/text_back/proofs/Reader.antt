-- What the reader says of its characters: how many there are at most, what a pair shows, and what is dropped.
use Rattle.laws.proofs.Base.{◌≡◌, refl, sym, ap, ◌∙◌, Bool, true, false, true≢false, and-false, List, [], ◌∷◌, ◌++◌, ℕ, ◌-◌, ◌≤◌, min-le_left, arith, eqb, lit≤, length, take, drop, length-take, ne_eqb}
use Rattle.laws.proofs.Radix.{length_digits}
use Rattle.laws.proofs.Tests.{true_or_false}
use Rattle.sizes.proofs.Received.{whole_bounds}
use Rattle.alphabet.specs.Paper.{code_point, escape, extension, pair_point}
use Rattle.alphabet.proofs.Laws.{undoes_pairs, unlisted, pair_escape, pair_cr}
use Rattle.text.specs.Paper.{Reading, Character, cr, whole_of, septets_received, decoded, trimmed, blank_cell, shown, shown_text, reading}
use Rattle.text.proofs.Septets.{decoded_plain, shown_few}
use Rattle.text.proofs.Shown.{shown_characters, shown_front}
use Rattle.text.proofs.Trim.{trim_rest, trim_length, trim_front, trim_ends, trim_behind, trim_other}
use Rattle.text_back.specs.Claims.{CharactersBounded, all_received, DropsCrsOnly, waits, Received, PairShown, ListedShown, UnlistedShown, EscapeTwiceShown, EscapedCrShown, EscapeLastShown, OwnShown, PlainShown}
use Rattle.text_back.proofs as own
use own.Accepted.{Reads, refused, read, reads}

-- the number of characters is that of those shown
pub count : (p : List ℕ) (n : ℕ) (t : List ℕ) → reading p n t ≡ shown_text (shown (septets_received p n))
    → (reading p n t).characters ≡ length (shown (septets_received p n))
count p n t e = ap (λ (r : Reading). r.characters) e ∙ shown_characters blank_cell (shown (septets_received p n))

pub received_bound : (p : List ℕ) (n : ℕ) → n ≤ 88 → length (septets_received p n) ≤ 93
unfolding whole_of
received_bound p n h =
    let o : List ℕ = take (n - 6) (drop 6 p) in
    let k : length o ≤ n - 6 = rw length-take (min-le_left (n - 6) (length (drop 6 p))) in
    rw length_digits (omega arith)

pub characters_bounded : CharactersBounded
characters_bounded p n t = go (reads p n t)
  where
    go : Reads p n t → (reading p n t).characters ≤ 93
    go (refused m ne e) = rw e (lit≤ tt)
    go (read w e) = omega (arith, count p n t e, shown_few (septets_received p n), received_bound p n (whole_bounds n w).1)

-- where the reader gives 0, it shows the septets received
pub shows : (p : List ℕ) (n : ℕ) (t : List ℕ) → (reading p n t).number ≡ 0 → reading p n t ≡ shown_text (shown (septets_received p n))
shows p n t z = go (reads p n t)
  where
    go : Reads p n t → reading p n t ≡ shown_text (shown (septets_received p n))
    go (refused m ne e) = absurd (ne (sym (ap (λ (r : Reading). r.number) e) ∙ z))
    go (read w e) = e

pub drops_crs_only : (p : List ℕ) (n : ℕ) (t : List ℕ) → (reading p n t).number ≡ 0 → DropsCrsOnly p n t
drops_crs_only p n t z =
    let all = all_received p n in
    let e = shows p n t z in
    let c = count p n t e in
    record {
      shown = rw c (trim_length all);
      first = rw (c, trim_front all) (ap (λ (r : Reading). take (length (trimmed all)) r.text) e ∙ shown_front blank_cell (trimmed all));
      dropped = rw (c, trim_front all) (trim_rest all);
      stops = rw c (trim_ends all);
    }

-- what follows septets of which none waits is read as if it began there
decoded_behind : (e : Bool) (a b : List ℕ) → waits e a ≡ false → decoded e (a ++ b) ≡ decoded e a ++ decoded false b
unfolding decoded waits
decoded_behind false [] b w = refl
decoded_behind true [] b w = absurd (true≢false w)
decoded_behind false (s ∷ a) b w =
    true_or_false (eqb s escape)
    (λ e. rw e (decoded_behind true a b (rw e at w)))
    (λ e. rw e (ap (◌∷◌ (record { point = code_point s; escaped = false })) (decoded_behind false a b (rw e at w))))
decoded_behind true (s ∷ a) b w = ap (◌∷◌ (record { point = pair_point s; escaped = true })) (decoded_behind false a b w)

-- what the reader shows, by what stands behind a
shown_behind : (p : List ℕ) (n : ℕ) (t a b : List ℕ) → Received p n t a b → reading p n t ≡ shown_text (trimmed (decoded false a ++ decoded false b))
shown_behind p n t a b h =
    shows p n t h.read ∙ ap (λ (l : List Character). shown_text (trimmed l)) (ap (decoded false) h.septets ∙ decoded_behind false a b h.closed)

pub pair_shown : PairShown
unfolding decoded
pair_shown p n t a s r x h e =
    shown_behind p n t a (escape ∷ s ∷ r) h
    ∙ ap shown_text (trim_behind (decoded false a) (record { point = pair_point s; escaped = true }) (decoded false r) (and-false (eqb (pair_point s) cr)))
    ∙ ap (λ (y : Character). shown_text (decoded false a ++ (y ∷ shown r))) (sym e)

-- a pair whose code point is c
pair_of : (s c : ℕ) (x : Character) → pair_point s ≡ c → x ≡ record { point = c; escaped = true } → x ≡ record { point = pair_point s; escaped = true }
pair_of s c x e f = f ∙ ap (λ (k : ℕ). record { point = k; escaped = true }) (sym e)

pub listed_shown : ListedShown
unfolding extension
listed_shown p n t a s r x h w =
    pair_shown p n t a s r x h (pair_of s _ x (ap pair_point w.1.1 ∙ (undoes_pairs w.0 w.1.0).reads) w.1.2)

pub unlisted_shown : UnlistedShown
unfolding extension
unlisted_shown p n t a s r x h w = pair_shown p n t a s r x h (pair_of s _ x (unlisted s w.0) w.1)

pub escape_twice_shown : EscapeTwiceShown
escape_twice_shown p n t a s r x h w = pair_shown p n t a s r x h (pair_of s _ x (ap pair_point w.0 ∙ pair_escape) w.1)

pub escaped_cr_shown : EscapedCrShown
escaped_cr_shown p n t a s r x h w = pair_shown p n t a s r x h (pair_of s _ x (ap pair_point w.0 ∙ pair_cr) w.1)

pub escape_last_shown : EscapeLastShown
unfolding decoded
escape_last_shown p n t a h =
    shown_behind p n t a (escape ∷ []) h ∙ ap shown_text (trim_other (decoded false a) (record { point = 0x20; escaped = false }) refl)

pub own_shown : OwnShown
unfolding decoded
own_shown p n t a s r h ne = ap (decoded false) h.septets ∙ decoded_behind false a (s ∷ r) h.closed ∙ rw (ne_eqb s escape ne)

pub plain_shown : PlainShown
plain_shown p n h = decoded_plain (septets_received p n) h
