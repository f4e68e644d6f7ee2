-- The calls for C on pages: the header's numbers, packed into one, and whether content can be handed back.
use Rattle.std.specs.Prelude.{not, List, [], ◌∷◌, ℕ, ◌+◌, ◌*◌, eqb, length}
use Rattle.laws.specs.Ruled.{ruled}
use Rattle.page.specs.Paper.{Heading, header, handed_number}

-- 01 Order: what reading a header gives: a number, and what the header says
pub record Headed : Type 0 where
  pub number : ℕ
  pub heading : Heading

-- 01 Order: with a refusal the other numbers are 0
abbrev pub unheaded : ℕ → Headed
unheaded n = record { number = n; heading = record { serial = 0; id = 0; scheme = 0; parameter = 0 } }

-- 01 Numbers given, 16: a page that isn't 88 octets is refused; 01 Page and text: of another the header says the rest
unfoldable pub headed : List ℕ → Headed
headed p = ruled unheaded ((not (eqb (length p) 88), 16) ∷ []) (record { number = 0; heading = header p })

-- DECISIONS, Several numbers in one: number + 2^8 × scheme + 2^16 × serial number + 2^32 × message identifier + 2^48 × page parameter
abbrev pub packed_headed : Headed → ℕ
packed_headed h =
    h.number
    + 0x100 * h.heading.scheme
    + 0x10000 * h.heading.serial
    + 0x100000000 * h.heading.id
    + 0x1000000000000 * h.heading.parameter

-- 01 Page and text: the reader of headers for C
abbrev pub header_call : List ℕ → ℕ
header_call p = packed_headed (headed p)

-- 01 Order, the handing back: the call beside it, for C
abbrev pub content_call : List ℕ → ℕ → ℕ
content_call p received = handed_number p received
