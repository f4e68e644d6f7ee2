-- What the functions give, in the paper's terms.
use Rattle.std.specs.Prelude.{◌≡◌, Bool, false, cond, ◌&&◌, List, ℕ, ◌+◌, ◌-◌, ◌/◌, ◌%◌, ◌^◌, ◌≤◌, ◌<◌, length, get_or, replicate, eqb, leb, ltb, Option, None, Some, Result, Ok, Err}
use Rattle.laws.specs.Ruled.{ruled}
use Rattle.laws.specs.Upto.{count, each}
use Rattle.refusals.specs.declared.Refusal.{Refusal}
use Rattle.refusals.specs.Number.{number_of}
use Rattle.schedule.specs.declared.Description.{Description}
use Rattle.schedule.specs.Paper.{Told, octet_at, end, new, width, told, place, rank, tells, is_first, grouped, base, faults, Read, unread, good}
use Rattle.schedule.specs.Coded.{told_of}
use Rattle.schedule.specs.Inner.{told_by}

-- the reader's answer, and where the descriptions of the 48 slots start that a message can describe
pub record Placed : Type 0 where
  pub read : Read
  pub places : List ℕ

-- where the description of a slot up to End starts, and 0 for the rest
abbrev pub place_at : List ℕ → ℕ → ℕ
place_at m i = cond (ltb i (end m)) (place m (rank m i)) 0

-- an answer that tells of no slot
abbrev pub unplaced_by : Read → Placed
unplaced_by r = record { read = r; places = replicate 48 0 }

-- with a refusal no slot is told of
abbrev pub unplaced : ℕ → Placed
unplaced n = unplaced_by (unread n)

-- a message that is not refused, with the places of all its descriptions
abbrev pub whole : List ℕ → Placed
whole m = record { read = good m; places = each (place_at m) 48 }

-- the reader with the places of all descriptions; `tells` is what stands there
unfoldable pub placed : List ℕ → ℕ → Placed
placed m received = ruled unplaced (faults m received) (whole m)

-- what a message must be for its descriptions to be read
pub record Readable (m : List ℕ) (received e : ℕ) : Type 0 where
  pub whole : length m ≡ 88
  pub few : received ≤ 88
  pub ends : e ≡ end m
  pub last : e ≤ 48

-- 01 Schedule message: a number of 48 bits that are the new bits, that of slot 1 the highest
abbrev pub NewBits : List ℕ → ℕ → Type 0
NewBits m x = (i : ℕ) → i < 48 → eqb (x / 2 ^ (47 - i) % 2) 1 ≡ new m i

-- a description and the place after it, or one that passes the received octets
pub data Stepped : Type 0 where
  took : Told → ℕ → Stepped
  past : Stepped

abbrev pub stepped_of : Option (Description × ℕ) → Stepped
stepped_of (Some (d, n)) = took (told_of d) n
stepped_of None = past

-- 01 Numbers given, 23: the description at a place, unless it passes the received octets
unfoldable pub step : List ℕ → ℕ → ℕ → Stepped
step m received at = cond (leb (at + width (octet_at m at)) received) (took (told m at) (at + width (octet_at m at))) past

-- for a slot below e whose new bit is b what a function gives, and for another what s has
abbrev pub over : {A : Type 0} → (ℕ → A) → A → List ℕ → Bool → ℕ → List A → ℕ → A
over f d m b e s i = cond (ltb i e && grouped m b i) (f i) (get_or s i d)

-- an array t that has this of every slot
abbrev pub Over : {A : Type 0} → (ℕ → A) → A → List ℕ → Bool → ℕ → List A → List A → Type 0
Over f d m b e s t = (i : ℕ) → i < 48 → get_or t i d ≡ over f d m b e s i

-- where a slot's description starts
abbrev pub start : List ℕ → ℕ → ℕ
start m i = place m (rank m i)

-- what is found once the slots below e whose new bit is b are passed: the place reached, where their descriptions start, and which are first transmissions
pub record Finds (m : List ℕ) (b : Bool) (e : ℕ) (s : List ℕ) (f : List Bool) (t : List ℕ) (g : List Bool) (at : ℕ) : Type 0 where
  pub reached : at ≡ place m (base m b + count (grouped m b) e)
  pub starts : Over (start m) 0 m b e s t
  pub firsts : Over (λ (i : ℕ). is_first (tells m i)) false m b e f g

-- a group of descriptions found within the received octets, or refused by 23 because its last passes them
abbrev pub Group : List ℕ → ℕ → Bool → List ℕ → List Bool → List ℕ → List Bool → Result ℕ Refusal → Type 0
Group m received b s f t g (Ok at) = Finds m b (end m) s f t g at × (at ≤ received)
Group m received b s f t g (Err r) =
    (number_of r ≡ 23) × (received < place m (base m b + count (grouped m b) (end m)))

-- which of the descriptions at the first e places are first transmissions
abbrev pub Firsts : List ℕ → List ℕ → List Bool → ℕ → Type 0
Firsts m p f e = (i : ℕ) → i < e → get_or f i false ≡ is_first (told_by m p i)
