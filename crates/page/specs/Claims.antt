-- What is promised of the sameness of pages, whatever is compared, and of headers that are written and read.
use Rattle.std.specs.Prelude.{◌≡◌, Bool, true, ◌&&◌, [], ◌∷◌, map, ◌⊎◌, ℕ, ◌/◌, ◌%◌, ◌<◌, eqb}
use Rattle.page.specs.Paper.{Heading, header, header_octets, Name, parameter_read, same_page}
use Rattle.page.specs.Coded.{key_of}

-- 01 Page and text: a and b are the same page
abbrev pub Same : Name → Name → Type 0
Same a b = same_page a b ≡ true

-- 01 Page and text: two pages are the same page or they are not
abbrev pub SameDecided : Type 0
SameDecided = (a b : Name) → Same a b ⊎ (Same a b → ⊥)

-- 01 Page and text: sameness is an equivalence
abbrev pub SameReflexive : Type 0
SameReflexive = (a : Name) → Same a a

abbrev pub SameSymmetric : Type 0
SameSymmetric = (a b : Name) → Same a b → Same b a

abbrev pub SameTransitive : Type 0
SameTransitive = (a b c : Name) → Same a b → Same b c → Same a c

-- 01 Page and text: the same page has one message identifier
abbrev pub SameIdentifier : Type 0
SameIdentifier = (a b : Name) → Same a b → a.id ≡ b.id

-- 02 No. 2: page parameters, and what they are taken for
abbrev pub ParametersRead : Type 0
ParametersRead =
    map parameter_read (0x00 ∷ 0x01 ∷ 0x10 ∷ 0x0f ∷ 0xf0 ∷ 0x11 ∷ 0x21 ∷ []) ≡ 0x11 ∷ 0x11 ∷ 0x11 ∷ 0x11 ∷ 0x11 ∷ 0x11 ∷ 0x21 ∷ []

-- 002 9.3.2: 0 in either half of a page parameter
abbrev pub ZeroHalf : ℕ → Type 0
ZeroHalf p = (p / 16 ≡ 0) ⊎ (p % 16 ≡ 0)

-- 01 Page and text: the same page as document 01 alone has it, by the octet that was sent
unfoldable pub same_page_in01 : Name → Name → Bool
same_page_in01 a b = eqb a.serial b.serial && (eqb a.id b.id && eqb a.parameter b.parameter)

-- 01 Page and text, 02 No. 2: what the documents say of a sameness r of pages
pub record Follows (r : Name → Name → Bool) : Type 0 where
  -- 01 Page and text: two pages are the same page, and neither comes first
  pub symmetric : (a b : Name) → r a b ≡ r b a
  -- 002 9.3.2: a page with 0 in either half of its parameter is treated exactly the same as one with 11
  pub zero : (s i p : ℕ) → ZeroHalf p → (b : Name)
      → r (record { serial = s; id = i; parameter = p }) b ≡ r (record { serial = s; id = i; parameter = 0x11 }) b
  -- 01 Page and text: where no half is 0, it is document 01's
  pub others : (a b : Name) → (ZeroHalf a.parameter → ⊥) → (ZeroHalf b.parameter → ⊥) → r a b ≡ same_page_in01 a b

-- 02 No. 2: sameness is so, and no other is
pub record SamenessSettled : Type 0 where
  pub follows : Follows same_page
  pub only : (r : Name → Name → Bool) → Follows r → (a b : Name) → r a b ≡ same_page a b

-- 002 9.3.2: serial number and identifier have two octets each
pub record Small (n : Name) : Type 0 where
  pub serial : n.serial < 0x10000
  pub id : n.id < 0x10000

-- DECISIONS, Sameness as one number: pages are the same page exactly if their keys are equal
abbrev pub KeySame : Type 0
KeySame = (a b : Name) → Small a → Small b → eqb (key_of a) (key_of b) ≡ same_page a b

-- 002 9.3.2: a header that is written is read back
abbrev pub HeaderBack : Type 0
HeaderBack = (h : Heading) → header (header_octets h) ≡ h

-- 002 9.3.2: octets that are read as a header are written as they stood
abbrev pub OctetsBack : Type 0
OctetsBack =
    (a b c d e f : ℕ) → b < 256 → d < 256 → header_octets (header (a ∷ b ∷ c ∷ d ∷ e ∷ f ∷ [])) ≡ a ∷ b ∷ c ∷ d ∷ e ∷ f ∷ []
