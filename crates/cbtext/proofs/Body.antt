-- What the text reader's answer says of a page: which of its two forms the line has, and what stands in it.
use Rattle.laws.proofs.Base.{◌≡◌, refl, ap, ◌∙◌, true, List, [], ◌∷◌, ◌++◌, ℕ, ◌-◌, ◌≤◌, arith, length, get_or, take, drop, ltb, ltb-true, ltb-false}
use Rattle.laws.proofs.Tests.{true_or_false}
use Rattle.sizes.specs.Paper.{whole_blocks}
use Rattle.page.specs.Paper.{header, octet}
use Rattle.text.specs.Paper.{Reading, Character, septets_received, points, blank_cell, shown, shown_text, reading}
use Rattle.text.proofs.Cases.{reading_13, reading_0}
use Rattle.text.proofs.Shown.{shown_number, shown_characters, shown_front}
use Rattle.text_back.proofs.Reader.{characters_bounded}
use Rattle.lines.specs.Paper.{ascii, hexadecimal, flat}
use Rattle.lines.proofs.Texts.{flat_append}
use Rattle.cbtext.specs.Paper.{character, heading, body, page_line}
use Rattle.cbtext.specs.Inner.{text_texts, hex_texts, body_texts, page_texts}
use Rattle.cbtext.proofs.Characters.{flat_each}

-- the header is in the first six octets
pub header_front : (p : List ℕ) → header (get_or p 0 0 ∷ get_or p 1 0 ∷ get_or p 2 0 ∷ get_or p 3 0 ∷ get_or p 4 0 ∷ get_or p 5 0 ∷ []) ≡ header p
unfolding header
header_front p = refl

-- the text of a page that reads
pub record Reads (p : List ℕ) (n : ℕ) (t : List ℕ) (count : ℕ) : Type 0 where
  pub few : count ≤ 93
  pub shows : body_texts p n ≡ text_texts (take count t)

-- the code points shown are at the front
text_front : (l : List Character) (t : List ℕ) (count : ℕ) → record { number = 0; characters = count; text = t } ≡ shown_text l → take count t ≡ points l
text_front l t count e =
    let n : count ≡ length l = ap (λ (r : Reading). r.characters) e ∙ shown_characters blank_cell l in
    let text : t ≡ (shown_text l).text = ap (λ (r : Reading). r.text) e in
    rw (n, text) (shown_front blank_cell l)

module _ (p : List ℕ) (n : ℕ) (t₀ t : List ℕ) (size : length t₀ ≡ 93) (long : length p ≡ 88) (blocks : whole_blocks n ≡ true) where
  pub reads_text : (count : ℕ) → record { number = 0; characters = count; text = t } ≡ reading p n t₀ → Reads p n t count
  unfolding body_texts
  reads_text count e =
      true_or_false (ltb 0x0f (octet p 5))
      (λ q. absurd (omega (arith, ap (λ (r : Reading). r.number) (e ∙ reading_13 p n t₀ size long blocks (ltb-true 0x0f (octet p 5) q)))))
      (λ q.
      let front = text_front (shown (septets_received p n)) t count (e ∙ reading_0 p n t₀ size long blocks (ltb-false 0x0f (octet p 5) q)) in
      let c : count ≡ (reading p n t₀).characters = ap (λ (r : Reading). r.characters) e in
      record { few = omega (arith, characters_bounded p n t₀); shows = rw (q, front) })

  -- a refusal tells another scheme
  pub reads_none : (m : ℕ) → (m ≡ 0 → ⊥) → record { number = m; characters = 0; text = t } ≡ reading p n t₀
      → body_texts p n ≡ hex_texts (take (n - 6) (drop 6 p))
  unfolding body_texts
  reads_none m ne e =
      true_or_false (ltb 0x0f (octet p 5)) (λ q. rw q) (λ q.
      let read = e ∙ reading_0 p n t₀ size long blocks (ltb-false 0x0f (octet p 5) q) in
      absurd (ne (ap (λ (r : Reading). r.number) read ∙ shown_number blank_cell (shown (septets_received p n)))))

-- put together, the texts of a body are the body
flat_body : (p : List ℕ) (n : ℕ) → flat (body_texts p n) ≡ body p n
unfolding flat ascii body body_texts
flat_body p n =
    true_or_false (ltb 0x0f (octet p 5))
    (λ q. rw (q, flat_each (hexadecimal 2) (take (n - 6) (drop 6 p))))
    (λ q. rw (q, flat_each character (points (shown (septets_received p n)))))

-- and those of a page its line
pub flat_page : (n : ℕ) (p : List ℕ) (received : ℕ) → flat (page_texts n p received) ≡ page_line n p received
unfolding flat
flat_page n p received =
    let rest = body_texts p received ++ ((10 ∷ []) ∷ []) in
    flat_append (heading n p) rest
    ∙ ap (λ (l : List ℕ). flat (heading n p) ++ l) (flat_append (body_texts p received) ((10 ∷ []) ∷ []) ∙ rw (flat_body p received))
