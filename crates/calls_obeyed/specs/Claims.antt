-- Demand 3 over the calls for C: on plan files, messages and the numbers that the calls return.
use Rattle.std.specs.Prelude.{◌≡◌, Bool, true, cond, List, ◌∷◌, ◌⊎◌, ℕ, zero, suc, ◌*◌, ◌/◌, ◌%◌, ◌≤◌, ◌<◌, eqb, length, get_or}
use Rattle.block_writer.specs.Paper.{last_used}
use Rattle.plan.specs.Paper.{Plan, entry_at}
use Rattle.plan_read.specs.Paper.{read_plan}
use Rattle.plan_slots.specs.Paper.{page_at, lowest_at}
use Rattle.board.specs.Coded.{lent_wanted}
use Rattle.plan_calls.specs.Paper.{write_schedule_call, check_schedule_call, check_slots_call}
use Rattle.schedule.specs.Paper.{shown}
use Rattle.checker_truth.specs.Claims.{Judged}
use Rattle.board_calls.specs.Paper.{decide_call}
use Rattle.held_calls.specs.Paper.{enter_call}
use Rattle.board_obeyed.specs.Claims.{WantedPage, Why, Board, board_after}

-- 01 The plan: the plan that a file holds
abbrev pub plan_in : List ℕ → Plan
plan_in f = (read_plan f).plan

-- 01 The plan, our writer: a message m of so many used octets is accepted beside the files c and p, with 88 received and with 22 times the block that holds the last used octet
pub record AcceptedCall (c p m : List ℕ) (used : ℕ) : Type 0 where
  pub whole : check_schedule_call c p m 88 ≡ 0
  pub blocks : check_schedule_call c p m (22 * last_used used) ≡ 0

-- 00 demand 3, for C: what cb_write_schedule writes is accepted by cb_check_schedule beside the same two files
abbrev pub CallsAccepted : Type 0
CallsAccepted =
    (c p : List ℕ) (b : ℕ) (o : List ℕ) → (write_schedule_call c p b o).returned % 256 ≡ 0
    → AcceptedCall c p (write_schedule_call c p b o).memory ((write_schedule_call c p b o).returned / 256)

-- 00 demand 3, for C: what the other two rest on: cb_check_schedule accepted the message beside the two files, and up to 64 identifiers are wanted
pub record ObeysCalls (c p m : List ℕ) (received : ℕ) (w : List ℕ) : Type 0 where
  pub accepted : check_schedule_call c p m received % 256 ≡ 0
  pub few : length w ≤ 64

-- 00 demand 3, for C: whatever is held, cb_decide reads the lowest slot of every wanted page of the current file
abbrev pub CallsWake : Type 0
CallsWake =
    (c p m : List ℕ) (received : ℕ) (w : List ℕ) → ObeysCalls c p m received w
    → (held i : ℕ) → WantedPage (plan_in c) (lent_wanted w) i → lowest_at (plan_in c) i ≡ suc i → decide_call true m received (suc i) w held ≡ 256

-- 00 demand 3, for C: and of the slots of the period it reads no others than those marked advised, wanted first transmissions, and repeats of those that aren't held
abbrev pub CallsWakeOnly : Type 0
CallsWakeOnly =
    (c p m : List ℕ) (received : ℕ) (w : List ℕ) → ObeysCalls c p m received w
    → (held i : ℕ) → i < (plan_in c).count → decide_call true m received (suc i) w held / 256 ≡ 1 → Why (plan_in c) m (lent_wanted w) held i

-- 01 Decision: a board in C gets the page planned for slot i, and enters it by cb_enter
abbrev pub entering_call : Plan → List ℕ → ℕ → ℕ → Board → Board
entering_call c m received i b = record { held = enter_call true m received (suc i) b.held; got = page_at c i ∷ b.got }

-- 01 Decision: slot i passes a board in C, which reads where cb_decide says so
abbrev pub passing_call : Plan → List ℕ → ℕ → List ℕ → ℕ → Board → Board
passing_call c m received w i b =
    cond (eqb (decide_call true m received (suc i) w b.held / 256) 1)
    (cond (eqb (entry_at c i).kind 2) (entering_call c m received i b) b)
    b

-- 00 demand 3, for C: a board b after the first n slots of a period; a slot that is lost to its radio gives it nothing
unfoldable pub after_slots : Plan → List ℕ → ℕ → List ℕ → (ℕ → Bool) → Board → ℕ → Board
after_slots c m received w lost b zero = b
after_slots c m received w lost b (suc n) =
    cond (lost n) (after_slots c m received w lost b n) (passing_call c m received w n (after_slots c m received w lost b n))

-- 00 demand 3, for C: a board that asks cb_decide at each slot and enters what it gets by cb_enter is, slot after slot, the board of which `board_obeyed` speaks
abbrev pub CallsPeriod : Type 0
CallsPeriod =
    (c : Plan) (m : List ℕ) (received : ℕ) (w : List ℕ) (lost : ℕ → Bool) (b : Board) (n : ℕ)
    → after_slots c m received w lost b n ≡ board_after c m received (lent_wanted w) lost b n

-- 01 Truthful, for C: slots are judged one by one where a returned number is 0, or 40 with a slot
abbrev pub BySlotCall : ℕ → Type 0
BySlotCall r = (r % 256 ≡ 0) ⊎ ((r % 256 ≡ 40) × (r / 256 ≡ 0 → ⊥))

-- 01 Truthful, for C: what cb_check_slots returns and leaves in 48 places w beside the files c and p: the number of cb_check_schedule; where it
-- judges slot by slot, of each slot the first rule that fails and 0 past the count; and otherwise all as it was
pub record CallJudges (c p m : List ℕ) (received : ℕ) (w : List ℕ) : Type 0 where
  pub returned : (check_slots_call c p m received w).returned ≡ check_schedule_call c p m received
  pub within : BySlotCall (check_schedule_call c p m received) → (i : ℕ) → i < (plan_in c).count
      → Judged (plan_in c) (plan_in p) i (shown m i) (get_or (check_slots_call c p m received w).memory i 0)
  pub past : BySlotCall (check_schedule_call c p m received) → (i : ℕ) → i < 48 → (plan_in c).count ≤ i → get_or (check_slots_call c p m received w).memory i 0 ≡ 0
  pub many : length (check_slots_call c p m received w).memory ≡ 48
  pub untouched : (BySlotCall (check_schedule_call c p m received) → ⊥) → (check_slots_call c p m received w).memory ≡ w

-- 01 Truthful, for C: so where there are 48 places; else 15 comes before all other numbers, and all places stay
pub record CallsJudge (c p m : List ℕ) (received : ℕ) (w : List ℕ) : Type 0 where
  pub judges : length w ≡ 48 → CallJudges c p m received w
  pub no_room : (length w ≡ 48 → ⊥) → check_slots_call c p m received w ≡ record { returned = 15; memory = w }
