-- The words of each number that refuses, and of each rule that a slot can break.
use Rattle.std.specs.Prelude.{cond, List, [], ◌∷◌, ℕ, eqb}
use Prim.Native.String.{String}
use Rattle.lines.specs.Paper.{ascii}

-- 01 Numbers given, 02 Nos. 1, 3 and 5: those that refuse, in words. Those of 40 are for where End differs, which comes with no slot
abbrev pub table : List (ℕ × String)
table =
    (2, "the piece is not 23 octets long")
    ∷ (3, "the block's link discriminator is not 01")
    ∷ (4, "the block's sequence code is reserved")
    ∷ (5, "the block is a null block")
    ∷ (6, "the block is not the next one of its message")
    ∷ (8, "the state is not one that the intake leaves")
    ∷ (10, "the text is over 93 septets long")
    ∷ (11, "a character is in neither table of GSM 03.38")
    ∷ (12, "the text ends in CR")
    ∷ (13, "the coding scheme is above 0F")
    ∷ (14, "the page parameter has a zero half, or its page is over its total")
    ∷ (15, "the output has the wrong length")
    ∷ (16, "the message is not 88 octets long")
    ∷ (17, "the used octets are 0 or over 88")
    ∷ (18, "the octets received are not 22, 44, 66 or 88")
    ∷ (20, "the message's type is not 00")
    ∷ (21, "Begin is not 1 to End, or End is over 48")
    ∷ (22, "a slot past End has its new bit set")
    ∷ (23, "a description passes the octets received")
    ∷ (24, "a repeat names no first transmission before it")
    ∷ (30, "the file does not begin with CBP")
    ∷ (31, "the file's version is not 1")
    ∷ (32, "the file is short, counts over 48 slots, or is not as long as it counts")
    ∷ (34, "the descriptions need over 80 octets")
    ∷ (35, "the current plan has no slots")
    ∷ (36, "an entry's kind is none of 0, 1, 2")
    ∷ (37, "an entry with no page has octets of a page")
    ∷ (40, "End is not the plan's number of slots")
    ∷ (41, "the slot is not 1 to 48")
    ∷ (42, "over 64 identifiers are wanted")
    ∷ (50, "the page's number is over its total")
    ∷ []

-- the words of a number in a table; none where it is not there
unfoldable pub find : List (ℕ × String) → ℕ → List ℕ
find [] n = []
find ((k, w) ∷ t) n = cond (eqb n k) (ascii w) (find t n)

-- 01 Numbers given: the words of a number
abbrev pub words : ℕ → List ℕ
words n = find table n

-- 01 Truthful: the rules of its list in words, as they are said of a slot that breaks them
abbrev pub rules : List (ℕ × String)
rules =
    (1, "no first transmission of its page, nor advised")
    ∷ (2, "no repeat of its first slot, nor advised or optional")
    ∷ (3, "planned optional, but not told as optional")
    ∷ (4, "planned advised, but not told as advised")
    ∷ (5, "its new bit is wrong")
    ∷ []

-- 01 Truthful: the words of a rule
abbrev pub rule_words : ℕ → List ℕ
rule_words n = find rules n
