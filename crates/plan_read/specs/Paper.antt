-- Plan files as the documents have them, in numbers and lists.
use Rattle.std.specs.Prelude.{ℕ, zero, suc, ◌+◌, ◌*◌, ◌/◌, ◌%◌, Bool, not, ◌&&◌, ◌||◌, List, [], ◌∷◌, ◌++◌, eqb, ltb, length, drop}
use Rattle.laws.specs.Ruled.{ruled}
use Rattle.laws.specs.Search.{some}
use Rattle.page.specs.Paper.{octet}
use Rattle.plan.specs.Paper.{Entry, Plan, filled_plan, empty, bad, lowest_bad, lowest_fault, naming}

-- 01 Page and text: 16 bits, high octet first, at octet n
abbrev pub sixteen : List ℕ → ℕ → ℕ
sixteen o n = octet o n * 256 + octet o (n + 1)

-- 01 The plan: CBP in ASCII
abbrev pub is_marked : List ℕ → Bool
is_marked f = eqb (octet f 1) 0x43 && (eqb (octet f 2) 0x42 && eqb (octet f 3) 0x50)

-- 01 The plan: what six octets say of a slot: kind, serial number, message identifier, page parameter
unfoldable pub entry_in : List ℕ → Entry
entry_in o = record { kind = octet o 1; serial = sixteen o 2; id = sixteen o 4; parameter = octet o 6 }

-- 01 The plan: n entries, six octets each
unfoldable pub entries_in : ℕ → List ℕ → List Entry
entries_in zero o = []
entries_in (suc n) o = entry_in o ∷ entries_in n (drop 6 o)

-- 01 The plan: the mark, the version and the count are six octets; the entries follow
abbrev pub listed : List ℕ → List Entry
listed f = entries_in (octet f 6) (drop 6 f)

-- 01 Order, 02 No. 1: what reading a plan file gives: its number, the entry that is named with it, and a plan
pub record PlanRead : Type 0 where
  pub number : ℕ
  pub entry : ℕ
  pub plan : Plan

-- 01 Order, 02 No. 1: with a refusal of a file the plan is empty, and 36 and 37 name its lowest bad entry
abbrev pub refusal : List ℕ → ℕ → PlanRead
refusal f n = record { number = n; entry = naming n (lowest_bad (listed f)); plan = empty }

-- 01 Order: a file that is not refused gives a plan
abbrev pub good_file : List ℕ → PlanRead
good_file f = record { number = 0; entry = 0; plan = filled_plan (listed f) }

-- 01 Order, a plan: 32 if short, 30, 31, 32, and in 33's place 36 or 37 (02 No. 1)
abbrev pub faults : List ℕ → List (Bool × ℕ)
faults f =
    (ltb (length f) 6, 32)
    ∷ (not (is_marked f), 30)
    ∷ (not (eqb (sixteen f 4) 1), 31)
    ∷ (ltb 48 (octet f 6) || not (eqb (length f) (6 + 6 * octet f 6)), 32)
    ∷ (some bad (listed f), lowest_fault (listed f))
    ∷ []

-- 01 The plan, Order: reading a plan file
unfoldable pub read_plan : List ℕ → PlanRead
read_plan f = ruled (refusal f) (faults f) (good_file f)

-- 01 The plan: the six octets of an entry
abbrev pub entry_octets : Entry → List ℕ
entry_octets e = e.kind ∷ e.serial / 256 ∷ e.serial % 256 ∷ e.id / 256 ∷ e.id % 256 ∷ e.parameter ∷ []

-- 01 The plan: the octets of entries, one after the other
unfoldable pub entries_octets : List Entry → List ℕ
entries_octets [] = []
entries_octets (e ∷ es) = entry_octets e ++ entries_octets es

-- 01 The plan: the file of a plan of some entries: CBP, version 1, the count, the entries
abbrev pub file_of : List Entry → List ℕ
file_of es = 0x43 ∷ 0x42 ∷ 0x50 ∷ 0 ∷ 1 ∷ length es ∷ entries_octets es
