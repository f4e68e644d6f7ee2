-- The calls for C that write and read text: the text room's answers, packed.
use Rattle.std.specs.Prelude.{List, ℕ}
use Rattle.calls.specs.Paper.{CallLeft, left_with}
use Rattle.page.specs.Paper.{Heading}
use Rattle.text.specs.Paper.{PageLeft, written_page, Reading, reading}

-- DECISIONS, Several numbers in one: number + 256 × used octets, and the page
abbrev pub written_left : PageLeft → CallLeft
written_left w = left_with w.number w.used w.page

-- 01 Page and text: the text writer for C
abbrev pub write_call : Heading → List ℕ → List ℕ → CallLeft
write_call h t p = written_left (written_page h t p)

-- DECISIONS, Several numbers in one: number + 256 × characters, and the text
abbrev pub read_left : Reading → CallLeft
read_left r = left_with r.number r.characters r.text

-- 01 Page and text: the text reader for C
abbrev pub read_call : List ℕ → ℕ → List ℕ → CallLeft
read_call p n t = read_left (reading p n t)
