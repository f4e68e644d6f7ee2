-- The lines of a log's pages: numbers in decimal and hex, and the text in UTF-8 or the content in hex.
use Rattle.std.specs.Prelude.{cond, List, [], ◌∷◌, ◌++◌, ℕ, ◌+◌, ◌-◌, ◌/◌, ◌%◌, take, drop, eqb, ltb}
use Rattle.block.specs.Paper.{Held, Given}
use Rattle.page.specs.Paper.{header, octet}
use Rattle.text.specs.Paper.{septets_received, points, shown}
use Rattle.lines.specs.Paper.{decimal, marked, hexadecimal, flat}
use Rattle.logs.specs.Paper.{listing}

-- RFC 3629 3: the octets of a code point of 16 bits, one below 80 hex, two below 800 hex, three from there on; the bits go in by sixes from the low end; neither table of 03.38 has surrogates
unfoldable pub utf8 : ℕ → List ℕ
utf8 c =
    cond (ltb c 0x80)
    (c ∷ [])
    (cond (ltb c 0x800) ((0xc0 + c / 64) ∷ (0x80 + c % 64) ∷ []) ((0xe0 + c / 4096) ∷ (0x80 + c / 64 % 64) ∷ (0x80 + c % 64) ∷ []))

-- the letter that stands for a character behind a backslash: n for LF, f for form feed, r for CR, and a backslash for itself; 0 for all others
unfoldable pub letter : ℕ → ℕ
letter c = cond (eqb c 0x0a) 110 (cond (eqb c 0x0c) 102 (cond (eqb c 0x0d) 114 (cond (eqb c 92) 92 0)))

-- a character in a line: a backslash and its letter, or, where it has none, in UTF-8
unfoldable pub character : ℕ → List ℕ
character c = cond (eqb (letter c) 0) (utf8 c) (92 ∷ letter c ∷ [])

-- what f gives of each entry, one behind the other
unfoldable pub joined : (ℕ → List ℕ) → List ℕ → List ℕ
joined f [] = []
joined f (x ∷ xs) = f x ++ joined f xs

-- a block's number in decimal, serial number and identifier in four hex digits
abbrev pub names : ℕ → ℕ → ℕ → List (List ℕ)
names n serial id = marked n 32 ++ (hexadecimal 4 serial ∷ (32 ∷ []) ∷ hexadecimal 4 id ∷ [])

-- 01 Page and text: the high half of a page parameter is the page, the low half the total
abbrev pub parts : ℕ → List (List ℕ)
parts parameter = marked (parameter / 16) 47 ++ (decimal (parameter % 16) ∷ [])

-- the word text and the characters of some code points
abbrev pub text_part : List ℕ → List ℕ
text_part points = 32 ∷ 116 ∷ 101 ∷ 120 ∷ 116 ∷ 32 ∷ joined character points

-- the word hex and some octets, each in two hex digits
abbrev pub hex_part : List ℕ → List ℕ
hex_part octets = 32 ∷ 104 ∷ 101 ∷ 120 ∷ 32 ∷ joined (hexadecimal 2) octets

-- 01 Page and text: the text received, where the scheme is ours, 00 to 0F; else the content received, octets 7 to n
unfoldable pub body : List ℕ → ℕ → List ℕ
body p n = cond (ltb 0x0f (octet p 5)) (hex_part (take (n - 6) (drop 6 p))) (text_part (points (shown (septets_received p n))))

-- the start of a line: the number n of the block that completed the page p, and what the page's header says
abbrev pub heading : ℕ → List ℕ → List (List ℕ)
heading n p = names n (header p).serial (header p).id ++ ((32 ∷ []) ∷ parts (header p).parameter)

-- the line of a page p that block n completed, of which some octets were received
abbrev pub page_line : ℕ → List ℕ → ℕ → List ℕ
page_line n p received = flat (heading n p) ++ (body p received ++ (10 ∷ []))

-- 01 Numbers given: a page complete is answered by 0 and has a line; another answer has none
abbrev pub line_of : ℕ → Given → List ℕ
line_of n g = cond (eqb g.number 0) (page_line n g.octets g.received) []

-- the lines of pieces taken in order from a state, the first of them with number n
abbrev pub page_lines : Held → ℕ → List (List ℕ) → List ℕ
page_lines h n ps = listing line_of h n ps
