-- Text read back as it was written, and what the reader gives: the statements.
use Rattle.std.specs.Prelude.{◌≡◌, Bool, false, true, not, ◌&&◌, List, [], ◌∷◌, ◌++◌, map, ℕ, ◌+◌, ◌*◌, ◌-◌, ◌/◌, ◌%◌, ◌≤◌, ◌<◌, eqb, length, get_or, take, drop, replicate}
use Rattle.laws.specs.Radix.{Below, bit}
use Rattle.laws.specs.Search.{some}
use Rattle.alphabet.specs.Paper.{code_point, septet_of, no_septet, escape, extension, pair_point}
use Rattle.sizes.specs.Paper.{whole_blocks}
use Rattle.page.specs.Paper.{Heading, header}
use Rattle.text.specs.Paper.{Reading, Character, cr, unpadded, packed, used_octets, bad_parameter, ends_in_cr, written_page, whole_of, septets_received, decoded, is_plain_cr, points, blank_cell, places, shown, shown_text, reading_with, reading}

-- 01 Page and text, 02 No. 6: a text as the reader gives it: its characters, and blank cells in the rest of the 93
abbrev pub given_back : List ℕ → Reading
given_back t = record { number = 0; characters = length t; text = places blank_cell t }

-- any page that agrees with the written one on the octets received, all used ones among them, is read back as the text
abbrev pub TextBack : Type 0
TextBack =
    (h : Heading) (t p : List ℕ) → (written_page h t p).number ≡ 0
    → (q u : List ℕ) (n : ℕ) → whole_blocks n ≡ true → used_octets t ≤ n → length q ≡ 88 → length u ≡ 93
    → take n q ≡ take n (written_page h t p).page → reading q n u ≡ given_back t

-- the written page itself, received whole
abbrev pub TextBackWhole : Type 0
TextBackWhole = (h : Heading) (t p u : List ℕ) → (written_page h t p).number ≡ 0 → length u ≡ 93 → reading (written_page h t p).page 88 u ≡ given_back t

-- 02 No. 5: a character of the default alphabet or of the extension table
pub data Listed (c : ℕ) : Type 0 where
  in_alphabet : (s : ℕ) → s < 128 → code_point s ≡ c → Listed c
  in_extension : (i : ℕ) → i < 10 → (get_or extension i (0, 0)).1 ≡ c → Listed c

-- 02 No. 5: a text of listed characters that has room, has at most 93 septets and doesn't end in CR, under a header that can be written
pub record Sendable (h : Heading) (t p : List ℕ) : Type 0 where
  pub room : length p ≡ 88
  pub scheme : h.scheme ≤ 15
  pub parameter : bad_parameter h.parameter ≡ false
  pub listed : (i : ℕ) → i < length t → Listed (get_or t i 0)
  pub short : length (unpadded t) ≤ 93
  pub open_ended : ends_in_cr t ≡ false

-- 02 No. 5: such a text is written, and comes back the same
abbrev pub ListedBack : Type 0
ListedBack =
    (h : Heading) (t p u : List ℕ) → Sendable h t p → length u ≡ 93
    → ((written_page h t p).number ≡ 0) × (reading (written_page h t p).page 88 u ≡ given_back t)

-- 01 Page and text: a text of the default alphabet alone has a septet for each character, as before
abbrev pub PlainSpelled : Type 0
PlainSpelled = (t : List ℕ) → ((i : ℕ) → i < length t → septet_of (get_or t i 0) ≡ no_septet → ⊥) → unpadded t ≡ map septet_of t

-- 01 Blocks: the octets of the blocks up to the last used one
abbrev pub used_blocks : ℕ → ℕ
used_blocks used = 22 * ((used + 21) / 22)

-- what agrees with the written page on the blocks up to the last used one, received so far
abbrev pub TextBackBlocks : Type 0
TextBackBlocks =
    (h : Heading) (t p q u : List ℕ) → (written_page h t p).number ≡ 0 → length q ≡ 88 → length u ≡ 93
    → take (used_blocks (written_page h t p).used) q ≡ take (used_blocks (written_page h t p).used) (written_page h t p).page
    → reading q (used_blocks (written_page h t p).used) u ≡ given_back t

-- the header of any page that agrees with the written one on the octets received is the one that was written
abbrev pub HeadingBack : Type 0
HeadingBack =
    (h : Heading) (t p q : List ℕ) (n : ℕ) → (written_page h t p).number ≡ 0 → 6 ≤ n → take n q ≡ take n (written_page h t p).page
    → header (take 6 q) ≡ h

-- the reader gives at most 93 characters
abbrev pub CharactersBounded : Type 0
CharactersBounded = (p : List ℕ) (n : ℕ) (t : List ℕ) → (reading p n t).characters ≤ 93

-- the characters of the septets received, before any is dropped
abbrev pub all_received : List ℕ → ℕ → List Character
all_received p n = decoded false (septets_received p n)

-- 02 No. 5: what the reader drops of the characters received
pub record DropsCrsOnly (p : List ℕ) (n : ℕ) (t : List ℕ) : Type 0 where
  -- those shown are the first of them
  pub shown : (reading p n t).characters ≤ length (all_received p n)
  pub first : take (reading p n t).characters (reading p n t).text ≡ points (take (reading p n t).characters (all_received p n))
  -- behind those stand CRs only, none of them escaped
  pub dropped : all_received p n
      ≡ take (reading p n t).characters (all_received p n)
      ++ replicate (length (all_received p n) - (reading p n t).characters) (record { point = cr; escaped = false })
  -- and the last that is shown is no such CR
  pub stops : (d : Character) → 0 < (reading p n t).characters → is_plain_cr (get_or (all_received p n) ((reading p n t).characters - 1) d) ≡ false

-- 02 No. 5: whether the last of some septets is a 1B that waits for another one; the flag says whether one waits before them
unfoldable pub waits : Bool → List ℕ → Bool
waits e [] = e
waits e (s ∷ r) = waits (not e && eqb s escape) r

-- 02 No. 5: the reader reads, and the septets received are a, none of which waits, and then b
pub record Received (p : List ℕ) (n : ℕ) (t a b : List ℕ) : Type 0 where
  pub read : (reading p n t).number ≡ 0
  pub septets : septets_received p n ≡ a ++ b
  pub closed : waits false a ≡ false

-- 02 No. 5: what is shown where 1B and a septet stand between a and r is all of a, one character x, and what r alone shows
abbrev pub ShownBetween : (ℕ → Character → Type 0) → Type 0
ShownBetween Pairs =
    (p : List ℕ) (n : ℕ) (t a : List ℕ) (s : ℕ) (r : List ℕ) (x : Character) → Received p n t a (escape ∷ s ∷ r) → Pairs s x
    → reading p n t ≡ shown_text (decoded false a ++ (x ∷ shown r))

-- 02 No. 5: a pair is one character
abbrev pub PairShown : Type 0
PairShown = ShownBetween (λ s x. x ≡ record { point = pair_point s; escaped = true })

-- 02 No. 5: a pair of the extension table shows the table's character
abbrev pub ListedShown : Type 0
ListedShown =
    ShownBetween (λ s x. (i : ℕ) × ((i < 10) × (s ≡ (get_or extension i (0, 0)).0) × (x ≡ record { point = (get_or extension i (0, 0)).1; escaped = true })))

-- 02 No. 5: a septet that the table doesn't list shows its own character
abbrev pub UnlistedShown : Type 0
UnlistedShown =
    ShownBetween (λ s x. ((i : ℕ) → i < 10 → (get_or extension i (0, 0)).0 ≡ s % 128 → ⊥) × (x ≡ record { point = code_point s; escaped = true }))

-- 02 No. 5: 1B twice is one space
abbrev pub EscapeTwiceShown : Type 0
EscapeTwiceShown = ShownBetween (λ s x. (s ≡ escape) × (x ≡ record { point = 0x20; escaped = true }))

-- 02 No. 5: an escaped CR stays, and so does all before it
abbrev pub EscapedCrShown : Type 0
EscapedCrShown = ShownBetween (λ s x. (s ≡ cr) × (x ≡ record { point = cr; escaped = true }))

-- 02 No. 5: 1B as the last whole septet received is a space, and all before it stays
abbrev pub EscapeLastShown : Type 0
EscapeLastShown =
    (p : List ℕ) (n : ℕ) (t a : List ℕ) → Received p n t a (escape ∷ [])
    → reading p n t ≡ shown_text (decoded false a ++ (record { point = 0x20; escaped = false } ∷ []))

-- 01 Page and text: any other septet is a character by itself
abbrev pub OwnShown : Type 0
OwnShown =
    (p : List ℕ) (n : ℕ) (t a : List ℕ) (s : ℕ) (r : List ℕ) → Received p n t a (s ∷ r) → (s ≡ escape → ⊥)
    → all_received p n ≡ decoded false a ++ (record { point = code_point s; escaped = false } ∷ decoded false r)

-- 01 Page and text: where no 1B is received, each septet is a character, as before
abbrev pub PlainShown : Type 0
PlainShown =
    (p : List ℕ) (n : ℕ) → some (λ (s : ℕ). eqb s escape) (septets_received p n) ≡ false
    → all_received p n ≡ map (λ (s : ℕ). record { point = code_point s; escaped = false }) (septets_received p n)

-- 02 No. 6: two readings with the same number, the same count and the same characters
pub record SameText (r s : Reading) : Type 0 where
  pub number : r.number ≡ s.number
  pub characters : r.characters ≡ s.characters
  pub first : take r.characters r.text ≡ take s.characters s.text

-- 02 No. 6: text itself is unchanged: whatever two readers fill with, and whatever stood in the places before, they read the same text
abbrev pub TextUnchanged : Type 0
TextUnchanged = (f g : ℕ) (p : List ℕ) (n : ℕ) (t u : List ℕ) → length t ≡ length u → SameText (reading_with f p n t) (reading_with g p n u)

-- 02 No. 6: what the reader leaves in the places past its characters
pub record CellsBlank (p : List ℕ) (n : ℕ) (t : List ℕ) : Type 0 where
  -- where it reads, U+0020 in the rest of the 93
  pub size : (reading p n t).number ≡ 0 → length (reading p n t).text ≡ 93
  pub rest : (reading p n t).number ≡ 0 → drop (reading p n t).characters (reading p n t).text ≡ replicate (93 - (reading p n t).characters) 0x20
  -- where it refuses, all places as they were
  pub untouched : ((reading p n t).number ≡ 0 → ⊥) → ((reading p n t).characters ≡ 0) × ((reading p n t).text ≡ t)

-- 02 No. 6: spaces at the end of a text still count: a space x before nothing but CRs is counted, and so is all before it
abbrev pub SpacesCounted : Type 0
SpacesCounted =
    (p : List ℕ) (n : ℕ) (t : List ℕ) (l : List Character) (x : Character) (j : ℕ) → (reading p n t).number ≡ 0
    → all_received p n ≡ l ++ (x ∷ replicate j (record { point = cr; escaped = false })) → x.point ≡ 0x20
    → (reading p n t).characters ≡ length l + 1

-- 02 No. 6: where text is read, no place holds 0, for which the new panel draws a box and the old driver looked
abbrev pub NoCellZero : Type 0
NoCellZero = (p : List ℕ) (n : ℕ) (t : List ℕ) (k : ℕ) → (reading p n t).number ≡ 0 → k < 93 → get_or (reading p n t).text k 0 ≡ 0 → ⊥

-- 02 No. 6: the reported length has to be taken: nothing that looks at the 93 places alone finds it
abbrev pub LengthNotInCells : Type 0
LengthNotInCells =
    (find : List ℕ → ℕ)
    → ((p : List ℕ) (n : ℕ) (t : List ℕ) → (reading p n t).number ≡ 0 → find (reading p n t).text ≡ (reading p n t).characters) → ⊥

-- bit m of the octets is bit m of the septets; past the last septet stand zeros
abbrev pub PackedBits : Type 0
PackedBits = (s : List ℕ) → Below 128 s → (m : ℕ) → m < 656 → bit 8 (packed s) m ≡ bit 7 s m

-- bit m of the whole septets is bit m of the octets
abbrev pub WholeBits : Type 0
WholeBits = (o : List ℕ) → Below 256 o → (m : ℕ) → m < 7 * (8 * length o / 7) → bit 7 (whole_of o) m ≡ bit 8 o m
