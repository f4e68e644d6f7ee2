-- Schedule messages as document 01 has them, in numbers and lists of octets. Octets and slots are counted from 0 here: slot i is number i + 1.
use Rattle.std.specs.Prelude.{Bool, true, false, cond, not, ◌&&◌, ◌||◌, List, [], ◌∷◌, ◌++◌, ℕ, zero, suc, ◌+◌, ◌*◌, ◌-◌, ◌/◌, ◌%◌, ◌^◌, length, take, drop, get_or, eqb, leb, ltb}
use Rattle.std.specs.Bool.{beq}
use Rattle.sizes.specs.Paper.{whole_blocks}
use Rattle.laws.specs.Ruled.{ruled}
use Rattle.laws.specs.Upto.{some_below, count, picked}

-- an octet of a message
abbrev pub octet_at : List ℕ → ℕ → ℕ
octet_at m i = get_or m i 0

-- 01 Schedule message, 000 3.5.1: bits 8 and 7 of octet 1, the type
abbrev pub type : List ℕ → ℕ
type m = octet_at m 0 / 64

-- 01 Schedule message, 000 3.5.1: bits 6 to 1 of octet 1, Begin
abbrev pub begin : List ℕ → ℕ
begin m = octet_at m 0 % 64

-- 01 Schedule message, 000 3.5.1: bits 6 to 1 of octet 2, End; its bits 8 and 7 are spare
abbrev pub end : List ℕ → ℕ
end m = octet_at m 1 % 64

-- 01 Schedule message, 000 3.5.2: octets 3 to 8, the new bits
abbrev pub bitmap : List ℕ → List ℕ
bitmap m = take 6 (drop 2 m)

-- 01 Schedule message, 000 3.5.2: one new bit for each slot, slot 1 in bit 8 of octet 3
unfoldable pub new : List ℕ → ℕ → Bool
new m i = eqb (octet_at (bitmap m) (i / 8) / 2 ^ (7 - i % 8) % 2) 1

-- 01 Schedule message, 000 3.5.5: what a description tells of its slot
pub data Told : Type 0 where
  first : ℕ → Told
  again : ℕ → Told
  optional advised : Told

-- 01 Schedule message, 000 3.5.5: a description has two octets where bit 8 of its first is set, and else one
abbrev pub width : ℕ → ℕ
width x = cond (leb 0x80 x) 2 1

-- 01 Schedule message: 42 to 7F are reserved
abbrev pub reserved : ℕ → Bool
reserved x = leb 0x42 x && leb x 0x7f

-- 01 Schedule message, 000 3.5.5: one octet: 00 to 3F a repeat of the slot in bits 6 to 1, 41 advised, 40 and the reserved 42 to 7F optional
abbrev pub short : ℕ → Told
short x = cond (leb x 0x3f) (again x) (cond (eqb x 0x41) advised optional)

-- 01 Schedule message, 000 3.5.5.1: two octets: a first transmission with the identifier's low 15 bits, high part first
abbrev pub long : ℕ → ℕ → Told
long x y = first (256 * (x - 0x80) + y)

-- 01 Schedule message: the description that starts at an octet
abbrev pub told : List ℕ → ℕ → Told
told m a = cond (leb 0x80 (octet_at m a)) (long (octet_at m a) (octet_at m (a + 1))) (short (octet_at m a))

-- 01 Schedule message: where the description starts before which k others stand; the first starts after eight octets
unfoldable pub place : List ℕ → ℕ → ℕ
place m zero = 8
place m (suc k) = place m k + width (octet_at m (place m k))

-- 01 Schedule message: whether a slot's new bit is as given
abbrev pub grouped : List ℕ → Bool → ℕ → Bool
grouped m b i = beq (new m i) b

-- 01 Schedule message: the slots up to End in the order of their descriptions: first those with new bit 1, then the others, each group in slot order
unfoldable pub order : List ℕ → List ℕ
order m = picked (grouped m true) (end m) ++ picked (grouped m false) (end m)

-- 01 Schedule message: how many descriptions stand before those of the slots whose new bit is as given
abbrev pub base : List ℕ → Bool → ℕ
base m b = cond b 0 (count (grouped m true) (end m))

-- 01 Schedule message: how many descriptions stand before that of a slot; `order_rank` has that this is its place in the order
abbrev pub rank : List ℕ → ℕ → ℕ
rank m i = base m (new m i) + count (grouped m (new m i)) i

-- 01 Schedule message: the description of a slot
unfoldable pub tells : List ℕ → ℕ → Told
tells m i = told m (place m (rank m i))

-- 01 Numbers given, 24: a first transmission, which a repeat must name
abbrev pub is_first : Told → Bool
is_first (first x) = true
is_first (again n) = false
is_first optional = false
is_first advised = false

-- 01 Numbers given, 24: for slot i, where t tells of each slot, a repeat's number is 0, not below its own slot's, or names no first transmission
abbrev pub false_in : (ℕ → Told) → ℕ → Told → Bool
false_in t i (first x) = false
false_in t i (again n) = eqb n 0 || (leb (suc i) n || not (is_first (t (n - 1))))
false_in t i optional = false
false_in t i advised = false

-- 01 Numbers given, 24: slot i has such a repeat
abbrev pub false_repeat : (ℕ → Told) → ℕ → Bool
false_repeat t i = false_in t i (t i)

-- 01 Schedule message: 1 ≤ Begin ≤ End ≤ 48
abbrev pub bounded : ℕ → ℕ → Bool
bounded b e = leb 1 b && (leb b e && leb e 48)

-- 01 Schedule message: a message's Begin and End are so
abbrev pub in_bounds : List ℕ → Bool
in_bounds m = bounded (begin m) (end m)

-- 01 Numbers given, 22: the new bit of a slot past End is set
abbrev pub new_past : List ℕ → ℕ → Bool
new_past m i = leb (end m) i && new m i

-- 01 Order: why a message is refused, before its descriptions are read
abbrev pub head_faults : List ℕ → ℕ → List (Bool × ℕ)
head_faults m received =
    (not (eqb (length m) 88), 16)
    ∷ (not (whole_blocks received), 18)
    ∷ (not (eqb (type m) 0), 20)
    ∷ (not (in_bounds m), 21)
    ∷ (some_below (new_past m) 48, 22)
    ∷ []

-- 01 Order: why a message is refused by its descriptions, 23 for all slots and then 24; one of them passes the received octets exactly if the last does
abbrev pub body_faults : List ℕ → ℕ → List (Bool × ℕ)
body_faults m received =
    (ltb received (place m (end m)), 23)
    ∷ (some_below (false_repeat (tells m)) (end m), 24)
    ∷ []

-- 01 Order: why a message is refused
abbrev pub faults : List ℕ → ℕ → List (Bool × ℕ)
faults m received = head_faults m received ++ body_faults m received

-- 01 Schedule message: a slot's new bit and its description
pub record Shown : Type 0 where
  pub new : Bool
  pub told : Told

-- 01 Schedule message: what a message shows of a slot
abbrev pub shown : List ℕ → ℕ → Shown
shown m i = record { new = new m i; told = tells m i }

-- 01 Schedule message: reading a schedule gives Begin and End
pub record Read : Type 0 where
  pub number : ℕ
  pub begin : ℕ
  pub end : ℕ

-- 01 Order: with a refusal the other numbers are 0
abbrev pub unread : ℕ → Read
unread n = record { number = n; begin = 0; end = 0 }

-- 01 Schedule message: Begin and End of a message that is not refused
abbrev pub good : List ℕ → Read
good m = record { number = 0; begin = begin m; end = end m }

-- 01 Schedule message, Order: the reader
unfoldable pub read : List ℕ → ℕ → Read
read m received = ruled unread (faults m received) (good m)

-- 01 Schedule message: what the reader of descriptions gives: a slot by its number and what is shown of it, no more, or a refusal
pub data GivenSlot : Type 0 where
  next : ℕ → Shown → GivenSlot
  no_more : GivenSlot
  refusal : ℕ → GivenSlot

-- 01 Schedule message: the slot whose description stands after k others
abbrev pub slot_of : List ℕ → ℕ → ℕ
slot_of m k = get_or (order m) k 0

-- 01 Schedule message: the next slot with its new bit and description, or no more, where k are given already
abbrev pub given_at : List ℕ → ℕ → GivenSlot
given_at m k = cond (ltb k (end m)) (next (suc (slot_of m k)) (shown m (slot_of m k))) no_more

-- 01 Schedule message, Order: the reader of descriptions; over a refused message each call gives that refusal
unfoldable pub given : List ℕ → ℕ → ℕ → GivenSlot
given m received k = ruled refusal (faults m received) (given_at m k)
