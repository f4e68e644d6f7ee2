-- A page's header, the sameness of pages, and the part handed back, as the documents have them.
use Rattle.std.specs.Prelude.{ℕ, ◌+◌, ◌*◌, ◌-◌, ◌/◌, ◌%◌, Bool, cond, not, ◌&&◌, ◌||◌, List, [], ◌∷◌, eqb, length, get_or, take, drop}
use Rattle.sizes.specs.Paper.{whole_blocks}
use Rattle.laws.specs.Ruled.{ruled}

-- 01 Page and text, 002 9.3.2: what the header says
pub record Heading : Type 0 where
  pub serial : ℕ
  pub id : ℕ
  pub scheme : ℕ
  pub parameter : ℕ

-- 01 Page and text: octets are counted from 1
abbrev pub octet : List ℕ → ℕ → ℕ
octet o n = get_or o (n - 1) 0

-- 002 9.3.2: octets 1-2 serial number, 3-4 message identifier, 5 coding scheme, 6 page parameter; high octet first
unfoldable pub header : List ℕ → Heading
header o =
    record {
      serial = octet o 1 * 256 + octet o 2;
      id = octet o 3 * 256 + octet o 4;
      scheme = octet o 5;
      parameter = octet o 6;
    }

-- 002 9.3.2: the six octets, high octet first
unfoldable pub header_octets : Heading → List ℕ
header_octets h =
    (h.serial / 256) ∷ (h.serial % 256) ∷ (h.id / 256) ∷ (h.id % 256) ∷ h.scheme ∷ h.parameter ∷ []

-- 01 Page and text: what tells a page from others
pub record Name : Type 0 where
  pub serial : ℕ
  pub id : ℕ
  pub parameter : ℕ

-- 02 No. 2, 002 9.3.2: what a receiver takes a page parameter for: with 0 in either half page 1 of 1, else what was sent
abbrev pub parameter_read : ℕ → ℕ
parameter_read p = cond (eqb (p / 16) 0 || eqb (p % 16) 0) 0x11 p

-- 01 Page and text, 02 No. 2: the same page when serial number, message identifier and page parameter, as it is read, are equal
unfoldable pub same_page : Name → Name → Bool
same_page a b =
    eqb a.serial b.serial && (eqb a.id b.id && eqb (parameter_read a.parameter) (parameter_read b.parameter))

-- 01 Order, the handing back: 16, then 18
abbrev pub handing : List ℕ → ℕ → List (Bool × ℕ)
handing p n = (not (eqb (length p) 88), 16) ∷ (not (whole_blocks n), 18) ∷ []

-- 01 Order, the handing back: a call beside it gives 16, then 18, or 0
unfoldable pub handed_number : List ℕ → ℕ → ℕ
handed_number p n = ruled (λ m. m) (handing p n) 0

-- 01 Page and text: a part of the caller's memory, by the piece of memory it lies in, its place there and its octets
pub record Part : Type 0 where
  pub region : ℕ
  pub place : ℕ
  pub octets : List ℕ

-- 01 Page and text: octets 7 to the last received, n, as they stand in the caller's own page
abbrev pub content_part : Part → ℕ → Part
content_part p n = record { region = p.region; place = 6 + p.place; octets = take (n - 6) (drop 6 p.octets) }

-- 01 Order, the handing back: an empty part
abbrev pub empty_part : Part → Part
empty_part p = record { region = p.region; place = p.place; octets = [] }

-- 01 Order, the handing back: the content received, or on a refusal the empty part
unfoldable pub handed_part : Part → ℕ → Part
handed_part p n = ruled (λ m. empty_part p) (handing p.octets n) (content_part p n)
