-- Schedule messages as the writer makes them of two plans. Slots are counted from 0 here: slot i is number i + 1.
use Rattle.std.specs.Prelude.{Bool, cond, not, ◌&&◌, List, [], ◌∷◌, ℕ, suc, length, eqb, leb, ltb}
use Rattle.laws.specs.Ruled.{ruled, unless0}
use Rattle.schedule.specs.Paper.{Told, first, again, optional, advised, Shown}
use Rattle.plan.specs.Paper.{Plan, plan_number, plans_entry, naming, entry_at}
use Rattle.plan_slots.specs.Paper.{has_page, page_at, lowest_at, low15_at}
use Rattle.sender_message.specs.Paper.{descriptions, MessageLeft, unwritten, written}

-- 01 The plan, our writer: first, repeat, 40 and 41 as planned: a page's lowest slot is a first transmission, a later one a repeat that names it
unfoldable pub planned_told : Plan → ℕ → Told
planned_told c i =
    cond (eqb (entry_at c i).kind 2)
    (cond (eqb (lowest_at c i) (suc i)) (first (low15_at c i)) (again (lowest_at c i)))
    (cond (eqb (entry_at c i).kind 1) advised optional)

-- 01 Truthful: new bit 1 for advised, 0 for optional, and for a page 1 exactly if the previous plan lacks it
unfoldable pub new_at : Plan → Plan → ℕ → Bool
new_at c p i = cond (eqb (entry_at c i).kind 2) (not (has_page p (page_at c i))) (eqb (entry_at c i).kind 1)

-- 01 The plan, our writer: what is told of a slot, beside the plan before
abbrev pub planned : Plan → Plan → ℕ → Shown
planned c p i = record { new = new_at c p i; told = planned_told c i }

-- 01 The plan, our writer: the message that tells each slot as planned, and its used octets
abbrev pub message : Plan → Plan → ℕ → MessageLeft
message c p b = written b (planned c p) c.count

-- 01 Order, schedule writer: 15, current plan, previous plan, 35, 21, 34
abbrev pub faults : Plan → Plan → ℕ → List ℕ → List (Bool × ℕ)
faults c p b o =
    (not (eqb (length o) 88), 15)
    ∷ unless0 (plan_number c)
    ∷ unless0 (plan_number p)
    ∷ (eqb c.count 0, 35)
    ∷ (not (leb 1 b && leb b c.count), 21)
    ∷ (ltb 80 (length (descriptions (planned c p) c.count)), 34)
    ∷ []

-- 01 The plan, Order: writing a schedule message of the current plan c, beside the previous plan p, with Begin b, to the lent output o
unfoldable pub write : Plan → Plan → ℕ → List ℕ → MessageLeft
write c p b o = ruled (unwritten o) (faults c p b o) (message c p b)

-- 02 No. 1: what writing leaves, and the entry that 36 and 37 name
pub record ScheduleLeft : Type 0 where
  pub left : MessageLeft
  pub entry : ℕ

-- 02 No. 1: nothing written, with the entry e where the number n names one
abbrev pub unwritten_naming : ℕ → List ℕ → ℕ → ScheduleLeft
unwritten_naming e o n = record { left = unwritten o n; entry = naming n e }

-- 02 No. 1: writing, and the entry of the plans where the number names one
abbrev pub write_schedule : Plan → Plan → ℕ → List ℕ → ScheduleLeft
write_schedule c p b o = record { left = write c p b o; entry = naming (write c p b o).number (plans_entry c p) }
