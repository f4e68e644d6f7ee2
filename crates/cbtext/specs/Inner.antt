-- The letter of a character, where it has one, and the texts that a line is put together from.
use Rattle.std.specs.Prelude.{cond, List, [], ◌∷◌, ◌++◌, ℕ, ◌-◌, Option, Some, None, map, take, drop, eqb, ltb}
use Rattle.page.specs.Paper.{octet}
use Rattle.text.specs.Paper.{septets_received, points, shown}
use Rattle.lines.specs.Paper.{ascii, hexadecimal}
use Rattle.cbtext.specs.Paper.{letter, character, heading}

-- the letter that stands for a character behind a backslash
unfoldable pub lettered : ℕ → Option ℕ
lettered c = cond (eqb (letter c) 0) None (Some (letter c))

-- `text_part`, as the texts that it is put together from
abbrev pub text_texts : List ℕ → List (List ℕ)
text_texts points = ascii " text " ∷ map character points

-- `hex_part`
abbrev pub hex_texts : List ℕ → List (List ℕ)
hex_texts octets = ascii " hex " ∷ map (hexadecimal 2) octets

-- `body`
unfoldable pub body_texts : List ℕ → ℕ → List (List ℕ)
body_texts p n = cond (ltb 0x0f (octet p 5)) (hex_texts (take (n - 6) (drop 6 p))) (text_texts (points (shown (septets_received p n))))

-- `page_line`
abbrev pub page_texts : ℕ → List ℕ → ℕ → List (List ℕ)
page_texts n p received = heading n p ++ (body_texts p received ++ ((10 ∷ []) ∷ []))
