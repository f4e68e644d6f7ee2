-- Text written into a page and read back, as documents 01 and 02 have it.
use Rattle.std.specs.Prelude.{ℕ, ◌+◌, ◌*◌, ◌-◌, ◌/◌, ◌%◌, Bool, false, true, cond, not, ◌&&◌, ◌||◌, List, [], ◌∷◌, ◌++◌, map, eqb, ltb, length, get_or, take, drop, replicate}
use Rattle.sizes.specs.Paper.{whole_blocks}
use Rattle.laws.specs.Ruled.{ruled}
use Rattle.laws.specs.Radix.{value, digits}
use Rattle.alphabet.specs.Paper.{code_point, septet_of, no_septet, escape, pair_point, pair_septet}
use Rattle.page.specs.Paper.{Heading, header_octets, octet}

-- 01 Page and text: CR is 0D
abbrev pub cr : ℕ
cr = 0x0d

-- 02 No. 5: the septets of a character: its own, or 1B and that of the extension table; none where neither has it
unfoldable pub septets_of : ℕ → List ℕ
septets_of c =
    cond (not (eqb (septet_of c) no_septet)) (septet_of c ∷ [])
    (cond (not (eqb (pair_septet c) no_septet)) (escape ∷ pair_septet c ∷ [])
    [])

-- 02 No. 5: the septets of a text, those of each character after those of the one before
unfoldable pub unpadded : List ℕ → List ℕ
unpadded [] = []
unpadded (c ∷ t) = septets_of c ++ unpadded t

-- 01 Page and text: a text's septets, padded to 93 with CR
unfoldable pub septets : List ℕ → List ℕ
septets t = unpadded t ++ replicate (93 - length (unpadded t)) cr

-- 01 Page and text: 93 septets packed low bits first into 82 octets: one number, its digits to base 128 and to base 256
unfoldable pub packed : List ℕ → List ℕ
packed s = digits 256 82 (value 128 s)

-- 01 Page and text: the page, six header octets and 82 content octets
unfoldable pub page_octets : Heading → List ℕ → List ℕ
page_octets h t = header_octets h ++ packed (septets t)

-- 01 Page and text, 02 No. 5: used octets 6 + (7 × septets ÷ 8, rounded up)
abbrev pub used_octets : List ℕ → ℕ
used_octets t = 6 + (7 * length (unpadded t) + 7) / 8

-- 01 Numbers given, 14: a zero half, or page over total
unfoldable pub bad_parameter : ℕ → Bool
bad_parameter p = eqb (p / 16) 0 || (eqb (p % 16) 0 || ltb (p % 16) (p / 16))

-- 01 Numbers given, 11, 02 No. 5: a character that is neither in the alphabet nor in the extension table
unfoldable pub foreign : List ℕ → Bool
foreign [] = false
foreign (c ∷ t) = (eqb (septet_of c) no_septet && eqb (pair_septet c) no_septet) || foreign t

-- 01 Numbers given, 12: the text ends in CR
unfoldable pub ends_in_cr : List ℕ → Bool
ends_in_cr t = eqb (get_or t (length t - 1) 0) cr

-- 01 Numbers given, what writing leaves: the number given, the used octets and the page
pub record PageLeft : Type 0 where
  pub number : ℕ
  pub used : ℕ
  pub page : List ℕ

-- 02 No. 5, order of the text writer: 15, 13, 14, 11, 10, 12; 10 is more than 93 septets
abbrev pub writer_tests : Heading → List ℕ → List ℕ → List (Bool × ℕ)
writer_tests h t p =
    (not (eqb (length p) 88), 15)
    ∷ (ltb 0x0f h.scheme, 13)
    ∷ (bad_parameter h.parameter, 14)
    ∷ (foreign t, 11)
    ∷ (ltb 93 (length (unpadded t)), 10)
    ∷ (ends_in_cr t, 12)
    ∷ []

-- 01 Page and text: what the text writer leaves of the page p; a refusal leaves it as it was
unfoldable pub written_page : Heading → List ℕ → List ℕ → PageLeft
written_page h t p =
    ruled
    (λ n. record { number = n; used = 0; page = p })
    (writer_tests h t p)
    (record { number = 0; used = used_octets t; page = page_octets h t })

-- 01 Page and text: the whole septets of some content octets, 18 of 16, 43 of 38, 68 of 60, 93 of 82: the digits to base 128 of the octets' number
unfoldable pub whole_of : List ℕ → List ℕ
whole_of o = digits 128 (8 * length o / 7) (value 256 o)

-- 01 Page and text: the septets received, those of octets 7 to n
abbrev pub septets_received : List ℕ → ℕ → List ℕ
septets_received p n = whole_of (take (n - 6) (drop 6 p))

-- 02 No. 5: a character that is read: its code point, and whether 1B stood before its septet
pub record Character : Type 0 where
  pub point : ℕ
  pub escaped : Bool

-- 02 No. 5: the characters of some septets, after a 1B that still waits for its septet if the flag says so: 1B and the septet after it are one, and 1B that is the last one is a space
unfoldable pub decoded : Bool → List ℕ → List Character
decoded false [] = []
decoded false (s ∷ r) =
    let others : List Character = decoded false r in
    cond (eqb s escape) (decoded true r) (record { point = code_point s; escaped = false } ∷ others)
decoded true [] = record { point = 0x20; escaped = false } ∷ []
decoded true (s ∷ r) = record { point = pair_point s; escaped = true } ∷ decoded false r

-- 02 No. 5: a CR that isn't escaped
abbrev pub is_plain_cr : Character → Bool
is_plain_cr x = eqb x.point cr && not x.escaped

-- 02 No. 5: a character before what is left of those after it: where nothing is left, a CR is dropped that isn't escaped
unfoldable pub left_with : Character → List Character → List Character
left_with x [] = cond (is_plain_cr x) [] (x ∷ [])
left_with x (y ∷ l) = x ∷ y ∷ l

-- 01 Page and text, 02 No. 5: the CRs at the end dropped, but no escaped one
unfoldable pub trimmed : List Character → List Character
trimmed [] = []
trimmed (x ∷ l) = left_with x (trimmed l)

-- 02 No. 5: the text that some septets are read as
abbrev pub shown : List ℕ → List Character
shown s = trimmed (decoded false s)

-- 01 Numbers given, what reading leaves: the number given, the number of characters and the text
pub record Reading : Type 0 where
  pub number : ℕ
  pub characters : ℕ
  pub text : List ℕ

-- 01 Page and text: the code points of some characters
abbrev pub points : List Character → List ℕ
points l = map (λ (x : Character). x.point) l

-- 02 No. 6: blank cells, the places past a text, are spaces, U+0020
abbrev pub blank_cell : ℕ
blank_cell = 0x20

-- 01 Page and text, 02 No. 6: the 93 places, with some code points in the first of them and a fill in the rest
abbrev pub places : ℕ → List ℕ → List ℕ
places fill c = c ++ replicate (93 - length c) fill

-- 01 Page and text: what reading leaves where these characters are read, with a fill in the places past them
unfoldable pub shown_with : ℕ → List Character → Reading
shown_with fill l = record { number = 0; characters = length l; text = places fill (points l) }

-- 02 No. 6: the same with blank cells
abbrev pub shown_text : List Character → Reading
shown_text l = shown_with blank_cell l

-- 01 Order, text reader: 15, 16, 18, 13
abbrev pub reader_tests : List ℕ → ℕ → List ℕ → List (Bool × ℕ)
reader_tests p n t =
    (not (eqb (length t) 93), 15)
    ∷ (not (eqb (length p) 88), 16)
    ∷ (not (whole_blocks n), 18)
    ∷ (ltb 0x0f (octet p 5), 13)
    ∷ []

-- 01 Page and text: what a text reader with a fill leaves of the text t; a refusal leaves it as it was
unfoldable pub reading_with : ℕ → List ℕ → ℕ → List ℕ → Reading
reading_with fill p n t =
    ruled (λ m. record { number = m; characters = 0; text = t }) (reader_tests p n t) (shown_with fill (shown (septets_received p n)))

-- 02 No. 6: the text reader fills with blank cells
abbrev pub reading : List ℕ → ℕ → List ℕ → Reading
reading p n t = reading_with blank_cell p n t
