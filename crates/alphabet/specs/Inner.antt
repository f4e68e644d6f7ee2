-- The constant tables, as those who are lent them know them.
use Rattle.std.specs.Prelude.{ℕ, ◌%◌, cond, List, [], ◌∷◌, map, ltb, get_or}
use Rattle.laws.specs.Search.{lookup}
use Rattle.laws.specs.Table.{listed}
use Rattle.alphabet.specs.Paper.{septet_of, no_septet, extension}

-- 01 Page and text: the septet, or the mark, of each code point from U+0000 to U+03A9
abbrev pub inverse : List ℕ
inverse = listed septet_of 0 938

-- what a table of code points has for a septet
abbrev pub point_by : List ℕ → ℕ → ℕ
point_by table s = get_or table (s % 128) 0

-- what a table of septets has for a code point; past the table there is the mark
abbrev pub septet_by : List ℕ → ℕ → ℕ
septet_by table c = cond (ltb c 938) (get_or table c 0) no_septet

-- 02 No. 5: the code point of 1B and a septet, by a table for those that the extension does not list
abbrev pub pair_point_by : List ℕ → ℕ → ℕ
pair_point_by table s = lookup (λ (p : ℕ × ℕ). p.0) (λ (p : ℕ × ℕ). p.1) extension (s % 128) (point_by table s)

-- column n of a row
abbrev pub column : ℕ → List ℕ → ℕ
column n r = get_or r n 0

-- 02 No. 5: the ten pairs, each a row of septet and code point
abbrev pub pairs : List (List ℕ)
pairs = map (λ (p : ℕ × ℕ). p.0 ∷ p.1 ∷ []) extension
