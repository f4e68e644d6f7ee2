-- Schedule messages by what they tell of each slot, in numbers and lists of octets. Slots are counted from 0 here: slot i is number i + 1.
use Rattle.std.specs.Prelude.{Bool, true, false, cond, not, ◌&&◌, List, [], ◌∷◌, ◌++◌, ℕ, zero, suc, ◌+◌, ◌*◌, ◌-◌, ◌/◌, ◌%◌, length, replicate, eqb, ltb}
use Rattle.std.specs.Bool.{beq}
use Rattle.laws.specs.Ruled.{ruled}
use Rattle.laws.specs.Upto.{picked, each}
use Rattle.schedule.specs.Paper.{Told, first, again, optional, advised, Shown, bounded}

-- 01 Schedule message, 000 3.5.5: the octets of a description: two with bit 8 set and 15 bits, high part first, for a first transmission; else one
abbrev pub octets_of : Told → List ℕ
octets_of (first x) = (0x80 + x / 256) ∷ (x % 256) ∷ []
octets_of (again n) = n ∷ []
octets_of optional = 0x40 ∷ []
octets_of advised = 0x41 ∷ []

-- 01 Schedule message: the octets of the descriptions of some slots, one after the other
unfoldable pub octets_of_all : (ℕ → Shown) → List ℕ → List ℕ
octets_of_all s [] = []
octets_of_all s (i ∷ is) = octets_of (s i).told ++ octets_of_all s is

-- 01 Schedule message: whether what is told of a slot has the new bit as given
abbrev pub grouped_in : (ℕ → Shown) → Bool → ℕ → Bool
grouped_in s b i = beq (s i).new b

-- 01 Schedule message: the slots below n whose new bit is as given, in slot order
abbrev pub group : (ℕ → Shown) → ℕ → Bool → List ℕ
group s n b = picked (grouped_in s b) n

-- 01 Schedule message: the descriptions of n slots: first those with new bit 1, then the others, each group in slot order
unfoldable pub descriptions : (ℕ → Shown) → ℕ → List ℕ
descriptions s n = octets_of_all s (group s n true ++ group s n false)

-- 01 Schedule message, 000 3.5.2: the new bit of slot i among n slots; past the last of them it is 0
abbrev pub new_bit : (ℕ → Shown) → ℕ → ℕ → ℕ
new_bit s n i = cond (ltb i n && (s i).new) 1 0

-- 01 Schedule message, 000 3.5.2: the first k new bits of octet j as a number, that of the lowest slot highest
unfoldable pub new_bits : (ℕ → Shown) → ℕ → ℕ → ℕ → ℕ
new_bits s n j zero = 0
new_bits s n j (suc k) = 2 * new_bits s n j k + new_bit s n (8 * j + k)

-- 01 Schedule message, 000 3.5.2: six octets of new bits, slot 1 in bit 8 of the first
abbrev pub bitmap_of : (ℕ → Shown) → ℕ → List ℕ
bitmap_of s n = each (λ (j : ℕ). new_bits s n j 8) 6

-- 01 Schedule message: the octets that are used: Begin with type 00, End with spare bits 0, the new bits, the descriptions
unfoldable pub used_part : ℕ → (ℕ → Shown) → ℕ → List ℕ
used_part b s n = (b ∷ n ∷ []) ++ (bitmap_of s n ++ descriptions s n)

-- 01 Schedule message: after that 2B, up to 88 octets
unfoldable pub padded : List ℕ → List ℕ
padded o = o ++ replicate (88 - length o) 0x2b

-- 01 Schedule message: the message that tells n slots
abbrev pub message_of : ℕ → (ℕ → Shown) → ℕ → List ℕ
message_of b s n = padded (used_part b s n)

-- 01 Order: the writer's number, the used octets it reports, and the lent output as it leaves it
pub record MessageLeft : Type 0 where
  pub number : ℕ
  pub used : ℕ
  pub output : List ℕ

-- 01 Order: a refusal leaves lent memory unchanged, and the other number is 0
abbrev pub unwritten : List ℕ → ℕ → MessageLeft
unwritten o n = record { number = n; used = 0; output = o }

-- 01 The plan, our writer: the message, and its used octets, 8 and those of the descriptions
abbrev pub written : ℕ → (ℕ → Shown) → ℕ → MessageLeft
written b s n = record { number = 0; used = 8 + length (descriptions s n); output = message_of b s n }

-- 01 Order, schedule writer, where it is given what to tell: 15, 21, 34
abbrev pub message_faults : ℕ → (ℕ → Shown) → ℕ → List ℕ → List (Bool × ℕ)
message_faults b s n o = (not (eqb (length o) 88), 15) ∷ (not (bounded b n), 21) ∷ (ltb 80 (length (descriptions s n)), 34) ∷ []

-- 01 Schedule message, Order: writing the message that tells n slots, with Begin b, to the lent output o
unfoldable pub write_message : ℕ → (ℕ → Shown) → ℕ → List ℕ → MessageLeft
write_message b s n o = ruled (unwritten o) (message_faults b s n o) (written b s n)

-- 000 3.5.5.1: a first transmission is told by 15 bits
abbrev pub in15 : Told → Told
in15 (first x) = first (x % 32768)
in15 (again n) = again n
in15 optional = optional
in15 advised = advised
