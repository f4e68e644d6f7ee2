-- What is claimed of the reader beside its contracts.
use Rattle.std.specs.Prelude.{◌≡◌, false, true, cond, List, ◌∷◌, ◌++◌, ◌⊎◌, ◌↔◌, ℕ, suc, ◌+◌, ◌*◌, ◌-◌, ◌≤◌, ◌<◌, length, take, set, replicate, eqb}
use Rattle.sizes.specs.Paper.{whole_blocks}
use Rattle.schedule.specs.Paper.{octet_at, type, begin, end, new, width, reserved, again, place, rank, tells, is_first, Shown, shown, Read, read, next, given}

-- 01 Schedule message: slot i is given exactly once, with what is shown of it, at its rank
pub record Once (m : List ℕ) (received i : ℕ) : Type 0 where
  pub at : given m received (rank m i) ≡ next (suc i) (shown m i)
  pub only : (k : ℕ) (s : Shown) → given m received k ≡ next (suc i) s → k ≡ rank m i

-- 01 Schedule message: over a message that is read each slot up to End is so given
abbrev pub GivenOnce : Type 0
GivenOnce = (m : List ℕ) (received i : ℕ) → (read m received).number ≡ 0 → i < end m → Once m received i

-- 01 Schedule message: Begin is from 1 to End
pub record Begins (m : List ℕ) : Type 0 where
  pub from : 1 ≤ begin m
  pub upto : begin m ≤ end m

-- 01 Schedule message: where the description of slot i starts
abbrev pub starting : List ℕ → ℕ → ℕ
starting m i = place m (rank m i)

-- 01 Schedule message: where the description of slot i ends
abbrev pub ending : List ℕ → ℕ → ℕ
ending m i = starting m i + width (octet_at m (starting m i))

-- 01 Order: the reader's tests before 24 pass, each by its number in the table
pub record Reaches24 (m : List ℕ) (received : ℕ) : Type 0 where
  -- 16: the message has 88 octets
  pub whole : length m ≡ 88
  -- 18: received are 22, 44, 66 or 88
  pub blocks : whole_blocks received ≡ true
  -- 20: the type is 00
  pub kind : type m ≡ 0
  -- 21: 1 ≤ Begin ≤ End ≤ 48
  pub begins : Begins m
  pub last : end m ≤ 48
  -- 22: no new bit is set past End
  pub old : (i : ℕ) → end m ≤ i → i < 48 → new m i ≡ false
  -- 23: no slot's description passes the received octets
  pub inside : (i : ℕ) → i < end m → ending m i ≤ received

-- 01 Numbers given, 24: a slot whose repeat's number is 0, not below its own slot's, or names no first transmission
pub record FalseRepeat (m : List ℕ) : Type 0 where
  pub slot : ℕ
  pub below : slot < end m
  pub number : ℕ
  pub repeats : tells m slot ≡ again number
  pub why : (number ≡ 0) ⊎ ((suc slot ≤ number) ⊎ (is_first (tells m (number - 1)) ≡ false))

-- 01 Numbers given, 24: it is given exactly where the tests before it pass and a slot has a false repeat
abbrev pub RefusedBy24 : Type 0
RefusedBy24 = (m : List ℕ) (received : ℕ) → ((read m received).number ≡ 24) ↔ (Reaches24 m received × FalseRepeat m)

-- 01 Schedule message: two messages read alike by every reader, with the same of each slot up to End, at the same place
pub record Alike (m n : List ℕ) (received : ℕ) : Type 0 where
  pub reads : read m received ≡ read n received
  pub places : (i : ℕ) → i < end m → starting m i ≡ starting n i
  pub shows : (i : ℕ) → i < end m → shown m i ≡ shown n i
  pub gives : (k : ℕ) → given m received k ≡ given n received k

-- 01 Schedule message: what is read, with another Begin; a refusal stays as it is
abbrev pub read_with_begin : ℕ → Read → Read
read_with_begin b r = cond (eqb r.number 0) (record { number = 0; begin = b; end = r.end }) r

-- 01 Schedule message: n is read as m by every reader, but for Begin, which is its own, with the same of each slot up to End, at the same place
pub record AlikeButBegin (m n : List ℕ) (received : ℕ) : Type 0 where
  pub reads : read n received ≡ read_with_begin (begin n) (read m received)
  pub places : (i : ℕ) → i < end m → starting m i ≡ starting n i
  pub shows : (i : ℕ) → i < end m → shown m i ≡ shown n i
  pub gives : (k : ℕ) → given m received k ≡ given n received k

-- 01 Schedule message: 40, optional
abbrev pub optional_octet : ℕ
optional_octet = 0x40

-- 01 Easy to get wrong: the message with the description that stands after k others made 40
abbrev pub made40 : List ℕ → ℕ → List ℕ
made40 m k = set m (place m k) optional_octet

-- 01 Easy to get wrong: a reserved description made 40 changes nothing that is read
abbrev pub NeverSlides : Type 0
NeverSlides =
    (m : List ℕ) (k : ℕ) → reserved (octet_at m (place m k)) ≡ true → (received : ℕ) → Alike (made40 m k) m received

-- 01 Schedule message: two messages of one length, type and End, with the same new bits and descriptions; Begin, the spare bits of octet 2 and the octets past the last description are free
pub record SameSlots (m n : List ℕ) : Type 0 where
  pub long : length m ≡ length n
  pub kind : type m ≡ type n
  pub last : end m ≡ end n
  pub news : (i : ℕ) → i < 48 → new m i ≡ new n i
  pub descriptions : (i : ℕ) → 8 ≤ i → i < place m (end m) → octet_at m i ≡ octet_at n i

-- 01 Schedule message: of such messages nothing is read differently where Begin is the same, and nothing but Begin where each has its own from 1 to End
pub record TailIgnored (m n : List ℕ) (received : ℕ) : Type 0 where
  pub same : begin m ≡ begin n → Alike m n received
  pub other : Begins m → Begins n → AlikeButBegin m n received

abbrev pub TailIsIgnored : Type 0
TailIsIgnored = (m n : List ℕ) → SameSlots m n → (received : ℕ) → TailIgnored m n received

-- 01 Schedule message: the message with Begin b, its type as it was
abbrev pub with_begin : List ℕ → ℕ → List ℕ
with_begin m b = set m 0 (64 * type m + b)

-- 01 Schedule message: the message with s in the spare bits of octet 2, its End as it was
abbrev pub with_spare : List ℕ → ℕ → List ℕ
with_spare m s = set m 1 (64 * s + end m)

-- 01 Schedule message: the message with the octets t past its last description
abbrev pub with_tail : List ℕ → List ℕ → List ℕ
with_tail m t = take (place m (end m)) m ++ t

-- 01 Schedule message: each of these by itself, of one message
abbrev pub PastIgnored : Type 0
PastIgnored =
    (m : List ℕ) (received : ℕ) (t : List ℕ) → length (with_tail m t) ≡ length m → Alike m (with_tail m t) received

abbrev pub SpareIgnored : Type 0
SpareIgnored = (m : List ℕ) (received s : ℕ) → 1 < length m → Alike m (with_spare m s) received

abbrev pub BeginOnlyItself : Type 0
BeginOnlyItself =
    (m : List ℕ) (received b : ℕ) → 0 < length m → Begins m → 1 ≤ b → b ≤ end m
    → (begin (with_begin m b) ≡ b) × AlikeButBegin m (with_begin m b) received

-- 01 Where the edges are: the message of the plan of two slots
abbrev pub two_slot_message : List ℕ
two_slot_message = 0x01 ∷ 0x02 ∷ 0xc0 ∷ 0 ∷ 0 ∷ 0 ∷ 0 ∷ 0 ∷ 0x80 ∷ 0x01 ∷ 0x01 ∷ replicate 77 0x2b

-- 01 Where the edges are: the same with Begin 2, with End octet C2, and with FF past its last description
abbrev pub two_slots_other : List ℕ
two_slots_other = 0x02 ∷ 0xc2 ∷ 0xc0 ∷ 0 ∷ 0 ∷ 0 ∷ 0 ∷ 0 ∷ 0x80 ∷ 0x01 ∷ 0x01 ∷ replicate 77 0xff

-- 01 Where the edges are: both are read, and the one is the other with all changed that may be
abbrev pub TwoSlots : Type 0
TwoSlots =
    (read two_slot_message 88 ≡ record { number = 0; begin = 1; end = 2 })
    × (with_tail (with_spare (with_begin two_slot_message 2) 3) (replicate 77 0xff) ≡ two_slots_other)
    × (read two_slots_other 88 ≡ record { number = 0; begin = 2; end = 2 })
