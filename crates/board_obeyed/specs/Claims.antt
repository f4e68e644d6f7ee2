-- What is claimed of a board that obeys an accepted schedule. Slots are counted from 0 here, as in plans: slot i is number i + 1.
use Rattle.std.specs.Prelude.{◌≡◌, Bool, true, false, cond, List, [], ◌∷◌, ℕ, zero, suc, ◌-◌, ◌≤◌, ◌<◌, take, eqb}
use Rattle.laws.specs.Search.{some}
use Rattle.page.specs.Paper.{Name, same_page}
use Rattle.plan.specs.Paper.{Plan, entry_at}
use Rattle.plan_slots.specs.Paper.{page_at, lowest_at, low15_at}
use Rattle.schedule.specs.Paper.{Told, first, again, optional, advised, tells}
use Rattle.checker.specs.Paper.{check}
use Rattle.board.specs.Paper.{Wanted, is_wanted, decide}
use Rattle.board_held.specs.Paper.{Schedule, is_held, enter, entered_under}

-- 01 Decision: a received schedule message
abbrev pub obeyed : List ℕ → ℕ → Schedule
obeyed m received = record { known = true; message = m; received = received }

-- 00 demand 3: what the theorems rest on: the checker accepted the message beside the plans c and p, and the wanted list has up to 64 identifiers
pub record Obeys (c p : Plan) (m : List ℕ) (received : ℕ) (w : Wanted) : Type 0 where
  pub accepted : (check c p m received).number ≡ 0
  pub few : w.count ≤ 64

-- 01 Decision: slot i is planned with a page whose identifier matches a wanted one in 15 bits
pub record WantedPage (c : Plan) (w : Wanted) (i : ℕ) : Type 0 where
  pub below : i < c.count
  pub page : (entry_at c i).kind ≡ 2
  pub wanted : is_wanted w (entry_at c i).id ≡ true

-- 00 demand 3: slot i is planned with a page whose identifier is wanted, all 16 bits of it
pub record WantedExactly (c : Plan) (w : Wanted) (i : ℕ) : Type 0 where
  pub below : i < c.count
  pub page : (entry_at c i).kind ≡ 2
  pub wanted : some (λ (x : ℕ). eqb x (entry_at c i).id) (take w.count w.ids) ≡ true

-- 00 demand 3: whatever is held, the board reads the lowest slot of every wanted page
abbrev pub Wakes : Plan → List ℕ → ℕ → Wanted → Type 0
Wakes c m received w =
    (h i : ℕ) → WantedPage c w i → lowest_at c i ≡ suc i → decide (obeyed m received) (suc i) w h ≡ record { number = 0; read = true }

-- 00 demand 3: why the board reads a slot of the period, in what is planned for it
pub data Why (c : Plan) (m : List ℕ) (w : Wanted) (h i : ℕ) : Type 0 where
  -- the slot is marked advised
  marked : tells m i ≡ advised → Why c m w h i
  -- it is the lowest slot of a page whose identifier matches a wanted one in 15 bits, told as a first transmission
  led : tells m i ≡ first (low15_at c i) → (entry_at c i).kind ≡ 2 → lowest_at c i ≡ suc i → is_wanted w (entry_at c i).id ≡ true → Why c m w h i
  -- it is a later slot of such a page, told as a repeat of the first transmission in the lowest, which isn't held
  repeated : tells m i ≡ again (lowest_at c i) → (entry_at c i).kind ≡ 2 → lowest_at c i ≤ i
      → tells m (lowest_at c i - 1) ≡ first (low15_at c i) → is_wanted w (entry_at c i).id ≡ true → is_held h (lowest_at c i) ≡ false
      → Why c m w h i

-- 00 demand 3: and it reads no other slot of the period
abbrev pub WakesOnly : Plan → List ℕ → ℕ → Wanted → Type 0
WakesOnly c m received w =
    (h i : ℕ) → i < c.count → (decide (obeyed m received) (suc i) w h).read ≡ true → Why c m w h i

-- 01 Decision: a board after some slots: the set it holds, and the pages it got
pub record Board : Type 0 where
  pub held : ℕ
  pub got : List Name

-- 01 Decision: a board with nothing held and nothing got
abbrev pub fresh : Board
fresh = record { held = 0; got = [] }

-- 01 Decision: a board holds a slot, by its number
abbrev pub Holds : Board → ℕ → Type 0
Holds b n = is_held b.held n ≡ true

-- 01 Page and text: a page is among those that a board got
abbrev pub Has : Board → Name → Type 0
Has b x = some (same_page x) b.got ≡ true

-- 01 Decision: a board gets the page planned for slot i, and enters it
abbrev pub entering : Plan → List ℕ → ℕ → ℕ → Board → Board
entering c m received i b = record { held = enter b.held (entered_under (obeyed m received) (suc i)); got = page_at c i ∷ b.got }

-- 01 Decision: a board that reads slot i, which goes out as planned, gets the page of that slot if one is planned
abbrev pub getting : Plan → List ℕ → ℕ → ℕ → Board → Board
getting c m received i b = cond (eqb (entry_at c i).kind 2) (entering c m received i b) b

-- 01 Decision: slot i passes a board that obeys the message
abbrev pub passing : Plan → List ℕ → ℕ → Wanted → ℕ → Board → Board
passing c m received w i b =
    cond (decide (obeyed m received) (suc i) w b.held).read (getting c m received i b) b

-- 00 demand 3: a board b after the first n slots of a period. A slot that is lost to its radio gives it nothing, whether it reads or not
unfoldable pub board_after : Plan → List ℕ → ℕ → Wanted → (ℕ → Bool) → Board → ℕ → Board
board_after c m received w lost b zero = b
board_after c m received w lost b (suc n) =
    cond (lost n) (board_after c m received w lost b n) (passing c m received w n (board_after c m received w lost b n))

-- 00 demand 3: and at the end of the period, after all slots of the plan
abbrev pub ended : Plan → List ℕ → ℕ → Wanted → (ℕ → Bool) → Board → Board
ended c m received w lost b = board_after c m received w lost b c.count

-- 01 Truthful: slot i is the lowest with its page
pub record LowestSlot (c : Plan) (i : ℕ) : Type 0 where
  pub below : i < c.count
  pub page : (entry_at c i).kind ≡ 2
  pub own : lowest_at c i ≡ suc i

-- 01 Decision: the held set is true of the board: where it holds the lowest slot of a page, it has that page
abbrev pub HeldTruly : Plan → Board → Type 0
HeldTruly c b = (i : ℕ) → LowestSlot c i → Holds b (suc i) → Has b (page_at c i)

-- 01 Schedule message: a description that names a page: a first transmission or a repeat
abbrev pub names_page : Told → Bool
names_page (first x) = true
names_page (again n) = true
names_page optional = false
names_page advised = false

-- 01 Decision: a description that a board may read for: a first transmission, a repeat or advised
abbrev pub calls_for : Told → Bool
calls_for (first x) = true
calls_for (again n) = true
calls_for optional = false
calls_for advised = true

-- 00 demand 3: what the period leaves a board b with, of a wanted page that it heard in slot i
pub record Leaves (c : Plan) (m : List ℕ) (received : ℕ) (w : Wanted) (lost : ℕ → Bool) (b : Board) (i : ℕ) : Type 0 where
  -- told as first, repeat or advised: the page
  pub has : calls_for (tells m i) ≡ true → Has (ended c m received w lost b) (page_at c i)
  -- told as first or repeat: its lowest slot too
  pub holds : names_page (tells m i) ≡ true → Holds (ended c m received w lost b) (lowest_at c i)
  -- and if i is that lowest slot, whatever is told of it
  pub holds_own : lowest_at c i ≡ suc i → Holds (ended c m received w lost b) (lowest_at c i)

-- 00 demand 3: a period on a radio that loses slots, begun with any held set that is true of the board
abbrev pub PeriodWithLosses : Plan → List ℕ → ℕ → Wanted → Type 0
PeriodWithLosses c m received w =
    (lost : ℕ → Bool) (b : Board) → HeldTruly c b → (i : ℕ) → WantedPage c w i → lost i ≡ false → Leaves c m received w lost b i

-- 00 demand 3: the held set is true of the board at the end too
abbrev pub StaysTrue : Plan → List ℕ → ℕ → Wanted → Type 0
StaysTrue c m received w = (lost : ℕ → Bool) (b : Board) → HeldTruly c b → HeldTruly c (ended c m received w lost b)

-- 00 demand 3: a board b gets a page in slot i, told as first or repeat: the slot isn't lost, and the board reads it
pub record GetsIn (c : Plan) (m : List ℕ) (received : ℕ) (w : Wanted) (lost : ℕ → Bool) (b : Board) (i : ℕ) : Type 0 where
  pub page : (entry_at c i).kind ≡ 2
  pub named : names_page (tells m i) ≡ true
  pub heard : lost i ≡ false
  pub reads : (decide (obeyed m received) (suc i) w (board_after c m received w lost b i).held).read ≡ true

-- 00 demand 3: from then on the board skips every slot k that is told as a repeat of that page, whatever it held before and lost since
abbrev pub ReadsOnce : Plan → List ℕ → ℕ → Wanted → Type 0
ReadsOnce c m received w =
    (lost : ℕ → Bool) (b : Board) (i k : ℕ) → GetsIn c m received w lost b i → i < k → k < c.count → tells m k ≡ again (lowest_at c i)
    → decide (obeyed m received) (suc k) w (board_after c m received w lost b k).held ≡ record { number = 0; read = false }

-- 00 demand 3: a radio that loses no slot
abbrev pub none_lost : ℕ → Bool
none_lost i = false

-- 00 demand 3: at the end of a period that it begins with nothing and loses nothing of, the board has every wanted page of the plan, and holds its lowest slot
pub record Ends (c : Plan) (m : List ℕ) (received : ℕ) (w : Wanted) (i : ℕ) : Type 0 where
  pub has : Has (ended c m received w none_lost fresh) (page_at c i)
  pub holds : Holds (ended c m received w none_lost fresh) (lowest_at c i)

abbrev pub Period : Plan → List ℕ → ℕ → Wanted → Type 0
Period c m received w = (i : ℕ) → WantedPage c w i → Ends c m received w i
