-- What the inner functions ask and promise.
use Rattle.std.specs.Prelude.{ℕ, ◌+◌, ◌*◌, ◌/◌, ◌%◌, ◌^◌, ◌<◌, ◌≤◌, ◌≡◌, Bool, false, cond, Option, None, Some, List, [], ◌∷◌, eqb, leb, ltb, length, take, set}
use Rattle.laws.specs.Radix.{Below, value, digits}
use Rattle.laws.specs.Ruled.{ruled}
use Rattle.laws.specs.Search.{some}
use Rattle.alphabet.specs.Paper.{septet_of, no_septet}
use Rattle.page.specs.Paper.{Heading}
use Rattle.text.specs.Paper.{PageLeft, foreign, septets_of, unpadded, ends_in_cr, used_octets, page_octets}
use Rattle.text_writer.specs.declared.filling.Filling.{Filling}

-- some character is past the table of septets
abbrev pub past : List ℕ → Bool
past t = some (leb 938) t

-- some character has no septet of its own
abbrev pub odd : List ℕ → Bool
odd t = some (λ (c : ℕ). eqb (septet_of c) no_septet) t

-- 02 No. 5: what looking through a text finds: how many septets it has, if each character is in one of the tables
abbrev pub looked : List ℕ → Option ℕ
looked t = cond (foreign t) None (Some (length (unpadded t)))

-- a text that is in the tables, and how many septets it has
pub record Known (text : List ℕ) (count : ℕ) : Type 0 where
  pub known : foreign text ≡ false
  pub counted : count ≡ length (unpadded text)

-- 02 No. 5, order of the text writer: what writing a text h leaves of the page p where 15, 13, 14 and 11 are past
unfoldable pub counted_page : Heading → List ℕ → List ℕ → PageLeft
counted_page h t p =
    ruled
    (λ n. record { number = n; used = 0; page = p })
    ((ltb 93 (length (unpadded t)), 10) ∷ (ends_in_cr t, 12) ∷ [])
    (record { number = 0; used = used_octets t; page = page_octets h t })

-- a text that can be written into so much room
pub record Writable (text : List ℕ) (count size : ℕ) (out : List ℕ) : Type 0 where
  pub known : Known text count
  pub short : count ≤ 93
  pub room : length out ≡ size

-- what adding a septet leaves: the octet that is being filled, and the octets
pub record Added : Type 0 where
  pub filling : Filling
  pub octets : List ℕ

-- what f holds, with a septet s above it
abbrev pub word : Filling → ℕ → ℕ
word f s = f.held + s * f.weight

-- 02 No. 4: a septet s packed as it comes, into the octet f among octets o; an octet is written when it is full
unfoldable pub added : Filling → ℕ → List ℕ → Added
added f s o =
    cond (eqb f.weight 1)
    (record { filling = record { held = s; weight = 128; at = f.at }; octets = o })
    (record {
      filling = record { held = word f s / 256; weight = f.weight / 2; at = f.at + 1 };
      octets = set o f.at (word f s % 256);
    })

-- what can be added: a septet, to an octet that isn't full and has its place
pub record Addable (f : Filling) (s : ℕ) (o : List ℕ) : Type 0 where
  pub septet : s < 128
  pub held : f.held < 128
  pub weight : f.weight ≤ 128
  pub place : f.at < length o

-- 01 Page and text: septets xs packed low bits first into the first octets of o, which are 82; what is left of their number waits in f
pub record Filled (xs : List ℕ) (f : Filling) (o : List ℕ) : Type 0 where
  pub below : Below 128 xs
  pub place : f.at ≡ 7 * length xs / 8
  pub weight : f.weight ≡ 2 ^ (7 * length xs % 8)
  pub held : f.held ≡ value 128 xs / 256 ^ (7 * length xs / 8)
  pub written : take (7 * length xs / 8) o ≡ digits 256 (7 * length xs / 8) (value 128 xs)
  pub room : length o ≡ 82

-- septets added one after the other
unfoldable pub added_all : List ℕ → Filling → List ℕ → Added
added_all [] f o = record { filling = f; octets = o }
added_all (s ∷ ss) f o = added_all ss (added f s o).filling (added f s o).octets

-- septets that can be added one after the other
unfoldable pub AddableAll : List ℕ → Filling → List ℕ → Type 0
AddableAll [] f o = Unit {0}
AddableAll (s ∷ ss) f o = Addable f s o × AddableAll ss (added f s o).filling (added f s o).octets

-- a character in the tables, whose septets can be added
pub record Spellable (c : ℕ) (f : Filling) (o : List ℕ) : Type 0 where
  pub known : foreign (c ∷ []) ≡ false
  pub addable : AddableAll (septets_of c) f o

-- the first octet, before anything is added
abbrev pub unfilled : Filling
unfilled = record { held = 0; weight = 1; at = 0 }

-- a text in the tables, whose septets can be added from the first octet on
pub record Textual (text o : List ℕ) : Type 0 where
  pub known : foreign text ≡ false
  pub addable : AddableAll (unpadded text) unfilled o
