-- The lines of a log's schedule messages, by what checks a message of which some octets are received.
use Rattle.std.specs.Prelude.{Bool, cond, not, ◌&&◌, List, [], ◌∷◌, ◌++◌, ℕ, ◌-◌, eqb, get_or}
use Rattle.block.specs.Paper.{Held, Given}
use Rattle.checker.specs.Paper.{SlotsChecked}
use Rattle.lines.specs.Paper.{ascii, decimal, marked, flat}
use Rattle.logs.specs.Paper.{listing}
use Rattle.words.specs.Paper.{words, rule_words}

-- three numbers, with a space behind each
abbrev pub numbers : ℕ → ℕ → ℕ → List (List ℕ)
numbers n answer slot = marked n 32 ++ (marked answer 32 ++ marked slot 32)

-- 01 Numbers given, 40: whether a slot that is told untruly comes with a number
abbrev pub names_untrue : ℕ → ℕ → Bool
names_untrue number slot = not (eqb slot 0) && eqb number 40

-- 01 Truthful: the verdict on a slot, by its number; 0 where there is none
abbrev pub rule_of : List ℕ → ℕ → ℕ
rule_of verdicts slot = cond (eqb slot 0) 0 (get_or verdicts (slot - 1) 0)

-- why a message is refused by a number: a slot that is told untruly, with the words of the rule that it breaks, else the number's words
unfoldable pub reason : ℕ → ℕ → ℕ → List (List ℕ)
reason number slot rule =
    cond (names_untrue number slot) (ascii "slot " ∷ decimal slot ∷ ascii ": " ∷ rule_words rule ∷ []) (words number ∷ [])

-- what is said of a message that is accepted by 0, or refused, and the line's end
unfoldable pub said : ℕ → ℕ → ℕ → List (List ℕ)
said number slot rule = cond (eqb number 0) (ascii "true\n" ∷ []) (reason number slot rule ++ ((10 ∷ []) ∷ []))

-- the line of what the checker answers to the message that block n completes: n, the checker's number and slot, and both in words
abbrev pub line : ℕ → SlotsChecked → List (List ℕ)
line n l =
    numbers n l.checked.number l.checked.slot ++ said l.checked.number l.checked.slot (rule_of l.verdicts l.checked.slot)

-- 01 Numbers given: a schedule message complete is answered by 7 and has a line; another answer has none
abbrev pub line_of : (List ℕ → ℕ → SlotsChecked) → ℕ → Given → List ℕ
line_of check n g = cond (eqb g.number 7) (flat (line n (check g.octets g.received))) []

-- the lines of pieces taken in order from a state, the first of them with number n
abbrev pub lines : (List ℕ → ℕ → SlotsChecked) → Held → ℕ → List (List ℕ) → List ℕ
lines check h n ps = listing (line_of check) h n ps
