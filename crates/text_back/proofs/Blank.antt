-- What the reader leaves past a text: blank cells; and that the text is the same whatever it fills with.
use Rattle.laws.proofs.Base.{◌≡◌, refl, sym, ap, ◌∙◌, Bool, true, false, List, [], ◌∷◌, ◌++◌, map-append, ℕ, zero, suc, ◌-◌, arith, eqb, eqb-false, ne_eqb}
use Rattle.laws.proofs.Base.{length, get_or, replicate, length-append}
use Rattle.laws.specs.Search.{some}
use Rattle.laws.proofs.Ruled.{ruled_related}
use Rattle.laws.proofs.Search.{some_append, some_false}
use Rattle.laws.proofs.Tests.{true_or_false, neither}
use Rattle.alphabet.specs.Paper.{alphabet, code_point, septet_of, escape, pair_point}
use Rattle.alphabet.proofs.Laws.{code_point_nonzero, pair_point_nonzero}
use Rattle.page.specs.Paper.{Heading}
use Rattle.text.specs.Paper.{Reading, Character, septets_of, unpadded, bad_parameter, foreign, ends_in_cr, written_page, septets_received, decoded, trimmed, points, blank_cell, places, shown, shown_with, shown_text, reader_tests, reading_with, reading}
use Rattle.text.proofs.Cases.{unread}
use Rattle.text.proofs.Shown.{shown_number, shown_characters, shown_parts, shown_front, shown_rest, shown_size}
use Rattle.text.proofs.Trim.{plain_cr, trim_rest, trim_padding, trim_behind}
use Rattle.text_back.specs.Claims.{SameText, TextUnchanged, CellsBlank, SpacesCounted, NoCellZero, LengthNotInCells}
use Rattle.text_back.proofs as own
use own.Accepted.{Reads, refused, read, reads}
use own.Back.{text_back_whole}
use own.Reader.{characters_bounded, count, shows}

shown_same : (f g : ℕ) (l : List Character) → SameText (shown_with f l) (shown_with g l)
shown_same f g l =
    record {
      number = shown_number f l ∙ sym (shown_number g l);
      characters = shown_characters f l ∙ sym (shown_characters g l);
      first = rw (shown_characters f l, shown_characters g l) (shown_front f l ∙ sym (shown_front g l));
    }

pub text_unchanged : TextUnchanged
unfolding reading_with
text_unchanged f g p n t u e =
    rw e
    (ruled_related SameText (λ (m : ℕ). unread m t) (λ (m : ℕ). unread m u) (λ m. record { number = refl; characters = refl; first = refl }) (reader_tests p n u)
    (shown_with f (shown (septets_received p n))) (shown_with g (shown (septets_received p n))) (shown_same f g (shown (septets_received p n))))

pub cells_blank : (p : List ℕ) (n : ℕ) (t : List ℕ) → CellsBlank p n t
cells_blank p n t = go (reads p n t)
  where
    go : Reads p n t → CellsBlank p n t
    go (refused m ne e) =
        let refuses : (reading p n t).number ≡ 0 → ⊥ = λ z. ne (sym (ap (λ (r : Reading). r.number) e) ∙ z) in
        record {
          size = λ z. absurd (refuses z);
          rest = λ z. absurd (refuses z);
          untouched = λ _. (ap (λ (r : Reading). r.characters) e, ap (λ (r : Reading). r.text) e);
        }
    go (read w e) =
        let l = shown (septets_received p n) in
        record {
          size = λ _. ap (λ (r : Reading). length r.text) e ∙ shown_size blank_cell l (omega (arith, characters_bounded p n t, count p n t e));
          rest = λ _. rw (count p n t e, e) (shown_rest blank_cell l);
          untouched = λ not_read. absurd (not_read (ap (λ (r : Reading). r.number) e ∙ shown_number blank_cell l));
        }

pub spaces_counted : SpacesCounted
unfolding trimmed
spaces_counted p n t l x j z e space =
    let left : shown (septets_received p n) ≡ l ++ (x ∷ []) =
    ap trimmed e ∙ trim_behind l x (replicate j plain_cr) (rw space) ∙ ap (λ (m : List Character). l ++ (x ∷ m)) (trim_padding j []) in
    count p n t (shows p n t z) ∙ ap length left ∙ length-append l (x ∷ [])

-- whether a code point is 0
abbrev zeroed : ℕ → Bool
zeroed c = eqb c 0

decoded_nonzero : (e : Bool) (s : List ℕ) → some zeroed (points (decoded e s)) ≡ false
unfolding some decoded
decoded_nonzero false [] = refl
decoded_nonzero true [] = refl
decoded_nonzero false (s ∷ r) =
    true_or_false (eqb s escape)
    (λ e. rw e (decoded_nonzero true r))
    (λ e. rw (e, ne_eqb (code_point s) 0 (code_point_nonzero s)) (decoded_nonzero false r))
decoded_nonzero true (s ∷ r) = rw (ne_eqb (pair_point s) 0 (pair_point_nonzero s)) (decoded_nonzero false r)

blanks_nonzero : (n : ℕ) → some zeroed (replicate n blank_cell) ≡ false
unfolding some
blanks_nonzero zero = refl
blanks_nonzero (suc n) = blanks_nonzero n

shown_nonzero : (s : List ℕ) → some zeroed (shown_text (shown s)).text ≡ false
shown_nonzero s =
    let l : List Character = shown s in
    let dropped : List Character = replicate (length (decoded false s) - length l) plain_cr in
    let split : points (decoded false s) ≡ points l ++ points dropped = ap points (trim_rest (decoded false s)) ∙ map-append (λ (x : Character). x.point) l dropped in
    let none : some zeroed (points l) ≡ false =
    (neither _ _ (sym (some_append zeroed (points l) (points dropped)) ∙ ap (some zeroed) (sym split) ∙ decoded_nonzero false s)).0 in
    ap (some zeroed) (shown_parts blank_cell l) ∙ some_append zeroed (points l) (replicate (93 - length l) blank_cell) ∙ rw none (blanks_nonzero (93 - length l))

pub no_cell_zero : NoCellZero
no_cell_zero p n t k z below =
    let none : some zeroed (reading p n t).text ≡ false = ap (λ (r : Reading). some zeroed r.text) (shows p n t z) ∙ shown_nonzero (septets_received p n) in
    eqb-false (get_or (reading p n t).text k 0) 0 (some_false zeroed 0 (reading p n t).text k (rw ((cells_blank p n t).size z) below) none)

-- a header to write a text with
abbrev heading : Heading
heading = record { serial = 0; id = 0; scheme = 0; parameter = 0x11 }

-- what looks at the places and finds the length would find that of every text that is written
module _ (find : List ℕ → ℕ) (finds : (p : List ℕ) (n : ℕ) (t : List ℕ) → (reading p n t).number ≡ 0 → find (reading p n t).text ≡ (reading p n t).characters) where
  found : (t : List ℕ) → (written_page heading t (replicate 88 0)).number ≡ 0 → find (places blank_cell t) ≡ length t
  found t z =
      let e = text_back_whole heading t (replicate 88 0) (replicate 93 0) z refl in
      sym (ap (λ (r : Reading). find r.text) e)
      ∙ finds (written_page heading t (replicate 88 0)).page 88 (replicate 93 0) (ap (λ (r : Reading). r.number) e)
      ∙ ap (λ (r : Reading). r.characters) e

pub length_not_in_cells : LengthNotInCells
unfolding alphabet septet_of septets_of unpadded bad_parameter foreign ends_in_cr written_page
length_not_in_cells find finds =
    let bad : ◌≡◌ {A = ℕ} 0 1 = sym (found find finds [] refl) ∙ found find finds (blank_cell ∷ []) refl in
    omega arith
