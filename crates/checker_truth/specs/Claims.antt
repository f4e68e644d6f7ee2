-- Truthful messages, rule by rule as document 01 lists them. Slots are counted from 0 here: slot i is number i + 1.
use Rattle.std.specs.Prelude.{◌≡◌, true, false, not, List, ◌⊎◌, ℕ, suc, ◌≤◌, ◌<◌, length, get_or}
use Rattle.schedule.specs.Paper.{first, again, optional, advised, tells, Shown, shown, end, read}
use Rattle.plan.specs.Paper.{Plan, plan_number, entry_at}
use Rattle.plan_slots.specs.Paper.{has_page, page_at, lowest_at, low15_at}
use Rattle.checker.specs.Paper.{Checked, check, unchecked, unjudged, check_slots}

-- 01 Truthful, the list's rules for a slot i of the current plan c of which s is shown; a reserved description reads as optional
-- 1, the lowest slot with a page: a first transmission with its low 15 bits, or advised
abbrev pub LowestSlot : Plan → ℕ → Shown → Type 0
LowestSlot c i s = (entry_at c i).kind ≡ 2 → lowest_at c i ≡ suc i → (s.told ≡ first (low15_at c i)) ⊎ (s.told ≡ advised)

-- 2, a later slot with that page: a repeat naming that lowest slot, or advised, optional or reserved
abbrev pub LaterSlot : Plan → ℕ → Shown → Type 0
LaterSlot c i s =
    (entry_at c i).kind ≡ 2 → lowest_at c i < suc i
    → (s.told ≡ again (lowest_at c i)) ⊎ ((s.told ≡ advised) ⊎ (s.told ≡ optional))

-- 3, planned optional: optional or reserved
abbrev pub PlannedOptional : Plan → ℕ → Shown → Type 0
PlannedOptional c i s = (entry_at c i).kind ≡ 0 → s.told ≡ optional

-- 4, planned advised: advised
abbrev pub PlannedAdvised : Plan → ℕ → Shown → Type 0
PlannedAdvised c i s = (entry_at c i).kind ≡ 1 → s.told ≡ advised

-- 5, the new bit, beside the previous plan p
pub record NewBit (c p : Plan) (i : ℕ) (s : Shown) : Type 0 where
  -- 1 for advised
  pub new_advised : s.told ≡ advised → s.new ≡ true
  -- 0 for optional and reserved
  pub new_optional : s.told ≡ optional → s.new ≡ false
  -- and for first and repeat 1 exactly if the previous plan lacks the page
  pub new_first : (x : ℕ) → s.told ≡ first x → s.new ≡ not (has_page p (page_at c i))
  pub new_repeat : (n : ℕ) → s.told ≡ again n → s.new ≡ not (has_page p (page_at c i))

-- 01 Truthful, at each slot: every rule holds
pub record TrueAt (c p : Plan) (i : ℕ) (s : Shown) : Type 0 where
  pub lowest_slot_lem : LowestSlot c i s
  pub later_slot : LaterSlot c i s
  pub planned_optional : PlannedOptional c i s
  pub planned_advised : PlannedAdvised c i s
  pub new_bit_lem : NewBit c p i s

-- 01 Truthful: what a slot's verdict says: 0 that every rule holds, and another number that this rule of the list fails and those before it hold
pub data Judged (c p : Plan) (i : ℕ) (s : Shown) : ℕ → Type 0 where
  all_hold : TrueAt c p i s → Judged c p i s 0
  lowest_fails : (LowestSlot c i s → ⊥) → Judged c p i s 1
  later_fails : LowestSlot c i s → (LaterSlot c i s → ⊥) → Judged c p i s 2
  optional_fails : LowestSlot c i s → LaterSlot c i s → (PlannedOptional c i s → ⊥) → Judged c p i s 3
  advised_fails : LowestSlot c i s → LaterSlot c i s → PlannedOptional c i s → (PlannedAdvised c i s → ⊥) → Judged c p i s 4
  new_fails : LowestSlot c i s → LaterSlot c i s → PlannedOptional c i s → PlannedAdvised c i s → (NewBit c p i s → ⊥) → Judged c p i s 5

-- 01 Truthful: of a message m of which some octets are received, beside the current plan c and the previous plan p
pub record Truthful (c p : Plan) (m : List ℕ) (received : ℕ) : Type 0 where
  -- both plans are good
  pub current_good : plan_number c ≡ 0
  pub previous_good : plan_number p ≡ 0
  -- the message reads without refusal
  pub reads : (read m received).number ≡ 0
  -- End equals the plan's count
  pub ends : end m ≡ c.count
  -- and at each slot
  pub slots : (i : ℕ) → i < c.count → TrueAt c p i (shown m i)

-- 01 Numbers given, 40: the lowest slot at which a rule fails
pub record LowestUntrue (c p : Plan) (m : List ℕ) (i : ℕ) : Type 0 where
  pub below : i < c.count
  pub fails : TrueAt c p i (shown m i) → ⊥
  pub lower : (j : ℕ) → j < i → TrueAt c p j (shown m j)

-- 01 Numbers given, 40: the number that comes with it: 0 where End differs, or that of the lowest untrue slot
pub data Names (c p : Plan) (m : List ℕ) : ℕ → Type 0 where
  end_differs : (end m ≡ c.count → ⊥) → Names c p m 0
  slot_untrue : (i : ℕ) → end m ≡ c.count → LowestUntrue c p m i → Names c p m (suc i)

-- 00 demand 3: accepted exactly when truthful; untrue is 40 where the plans are good, the current one has slots and the message reads; and with 40 comes the slot that the table names
pub record AcceptedExactly (c p : Plan) (m : List ℕ) (received : ℕ) : Type 0 where
  pub accepted_truthful : (check c p m received).number ≡ 0 → Truthful c p m received
  pub truthful_accepted : Truthful c p m received → check c p m received ≡ unchecked 0
  pub untruthful_40 : plan_number c ≡ 0 → plan_number p ≡ 0 → (c.count ≡ 0 → ⊥) → (read m received).number ≡ 0 → (Truthful c p m received → ⊥)
      → (check c p m received).number ≡ 40
  pub untrue_names : (check c p m received).number ≡ 40 → Names c p m (check c p m received).slot

-- 00, the third version: a first transmission marked as a repeat; 01 Truthful: slot i is the lowest with its page, and told as a repeat of the slot of number n
pub record ToldAsRepeat (c : Plan) (m : List ℕ) (i n : ℕ) : Type 0 where
  pub below : i < c.count
  pub page : (entry_at c i).kind ≡ 2
  pub lowest : lowest_at c i ≡ suc i
  pub again_told : tells m i ≡ again n

-- 00, the third version: no message is accepted that tells a page's lowest slot as a repeat
abbrev pub NeverObeyed : Plan → Plan → List ℕ → ℕ → Type 0
NeverObeyed c p m received = (i n : ℕ) → ToldAsRepeat c m i n → (check c p m received).number ≡ 0 → ⊥

-- 01 Truthful: slots are judged one by one where a message is accepted by 0, or untrue by 40 with End as counted
abbrev pub BySlot : Plan → List ℕ → Checked → Type 0
BySlot c m k = ((k.number ≡ 0) ⊎ (k.number ≡ 40)) × (end m ≡ c.count)

-- 01 Truthful: what checking slot by slot answers and leaves in 48 places w, beside plans c and p
pub record SlotsJudged (c p : Plan) (m : List ℕ) (received : ℕ) (w : List ℕ) : Type 0 where
  -- the answer is the checker's
  pub answer : (check_slots c p m received w).checked ≡ check c p m received
  -- each slot has its verdict, and those past the count have 0
  pub within : BySlot c m (check c p m received) → (i : ℕ) → i < c.count → Judged c p i (shown m i) (get_or (check_slots c p m received w).verdicts i 0)
  pub past : BySlot c m (check c p m received) → (i : ℕ) → i < 48 → c.count ≤ i → get_or (check_slots c p m received w).verdicts i 0 ≡ 0
  pub many : length (check_slots c p m received w).verdicts ≡ 48
  -- otherwise all places stay as they were
  pub untouched : (BySlot c m (check c p m received) → ⊥) → (check_slots c p m received w).verdicts ≡ w

-- 01 Order: so where there are 48 places; else 15 comes before all other numbers, and all places stay
pub record JudgesSlots (c p : Plan) (m : List ℕ) (received : ℕ) (w : List ℕ) : Type 0 where
  pub judges : length w ≡ 48 → SlotsJudged c p m received w
  pub no_room : (length w ≡ 48 → ⊥) → check_slots c p m received w ≡ unjudged 0 w 15
