-- What is told of a slot, case by case.
use Rattle.laws.proofs.Base.{◌≡◌, refl, ap, ◌∙◌, Bool, true, false, cond, ℕ, suc, ◌+◌, ◌%◌, ◌≤◌, ◌<◌, arith, List, map, length, get_or, set, get_or-set_same, get_or-set_other, eqb, lt-ltb}
use borrow.Author.Count.{below_more}
use Rattle.schedule.specs.declared.Slot.{Slot}
use Rattle.schedule.specs.Coded.{shown_of}
use Rattle.schedule.specs.Inner.{zeroed}
use Rattle.schedule.specs.Paper.{Told, first, again, optional, advised, Shown}
use Rattle.plan_slots.specs.declared.Planned.{Planned as PlannedCode}
use Rattle.plan.specs.Paper.{Plan, entry_at}
use Rattle.plan_slots.specs.Inner.{none_planned, said_at, all_planned, nothing}
use Rattle.plan_slots.specs.Paper.{Planned, lowest_at, low15_at, planned_at}
use Rattle.plan_slots.specs.Coded.{planned_of}
use Rattle.plan_slots.proofs.Said.{says_at}
use Rattle.sender_message.specs.Paper.{in15}
use Rattle.sender_message.specs.Coded.{shown_in}
use Rattle.sender.specs as defs
use defs.Paper.{planned_told, new_at, planned}
use defs.Inner.{shown_by}

abbrev shown : Bool → Told → Shown
shown n t = record { new = n; told = t }

-- what is told by what the plans say is what is planned
told_said : (c p : Plan) (i : ℕ) → i < c.count → shown_by (said_at c p i) i ≡ planned c p i
unfolding shown_by said_at planned_told new_at
told_said c p i l = rw (lt-ltb i c.count l) (go (eqb (entry_at c i).kind 2) refl)
  where
    go : (b : Bool) → eqb (entry_at c i).kind 2 ≡ b → shown_by (cond (eqb (entry_at c i).kind 2) (planned_at c p i) (none_planned (entry_at c i).kind)) i ≡ planned c p i
    go true k = rw (k, k)
    go false k = rw (k, k)

-- what is told, in 15 bits
abbrev pub shown15 : Shown → Shown
shown15 v = shown v.new (in15 v.told)

-- what is planned has 15 bits where it is a first transmission
planned15 : (c p : Plan) (i : ℕ) → shown15 (planned c p i) ≡ planned c p i
unfolding planned_told
planned15 c p i = go (eqb (entry_at c i).kind 2) (eqb (lowest_at c i) (suc i)) (eqb (entry_at c i).kind 1)
  where
    go : (a b d : Bool) → let t = cond a (cond b (first (low15_at c i)) (again (lowest_at c i))) (cond d advised optional) in shown (new_at c p i) (in15 t) ≡ shown (new_at c p i) t
    go true true d = let e : low15_at c i % 32768 ≡ low15_at c i = omega arith in rw e
    go true false d = refl
    go false b true = refl
    go false b false = refl

module _ (c p : Plan) (xs : List PlannedCode) (q : map planned_of xs ≡ all_planned c p) (few : c.count ≤ 48) (i : ℕ) (l : i < c.count) where
  -- what an array of all that the plans say tells of a slot is what is planned
  pub all_told : shown15 (shown_by (planned_of (get_or xs i nothing)) i) ≡ planned c p i
  all_told = ap (λ (v : Planned). shown15 (shown_by v i)) (says_at c p xs q i (omega arith)) ∙ ap shown15 (told_said c p i l) ∙ planned15 c p i

-- a turn of the loop that fills an array with what is told
pub told_more : (f : ℕ → Shown) (slots : List Slot) (i : ℕ) (x : Slot) → i < length slots
    → ((k : ℕ) → k < i → shown_in slots k ≡ f k) → shown15 (shown_of x) ≡ f i → (k : ℕ) → k < i + 1 → shown_in (set slots i x) k ≡ f k
told_more f slots i x room h own =
    below_more _ i
    (λ k l. let other : k ≡ i → ⊥ = λ e. omega arith in rw (get_or-set_other slots i k x zeroed other) (h k l))
    (rw (get_or-set_same slots i x zeroed room) own)
