-- Checking a schedule message beside two plans, as tests, and slot by slot. Slots are counted from 0 here: slot i is number i + 1.
use Rattle.std.specs.Prelude.{Bool, cond, not, List, [], ◌∷◌, ℕ, suc, eqb, ltb, length}
use Rattle.laws.specs.Ruled.{ruled, unless0}
use Rattle.laws.specs.Upto.{lowest, each}
use Rattle.schedule.specs.Paper.{Shown, shown, end, read}
use Rattle.plan.specs.Paper.{Plan, plan_number, plans_entry}
use Rattle.plan_slots.specs.Paper.{planned_at}
use Rattle.checker_slots.specs.Paper.{true_by, failing_rule}

-- 01 Truthful: a slot is told truly
unfoldable pub is_true : Plan → Plan → ℕ → Shown → Bool
is_true c p i s = true_by (planned_at c p i) (suc i) s

-- 01 Numbers given, 40: what a message shows of a slot is untrue
abbrev pub untrue : Plan → Plan → List ℕ → ℕ → Bool
untrue c p m i = not (is_true c p i (shown m i))

-- 01 Order, 02 No. 1: the checker's number, and the slot that comes with 40, or the one whose entry 36 and 37 name
pub record Checked : Type 0 where
  pub number : ℕ
  pub slot : ℕ

-- 01 Order: with a refusal the other number is 0
abbrev pub unchecked : ℕ → Checked
unchecked n = record { number = n; slot = 0 }

-- 02 No. 1: a refusal with the entry e that the plans name, 0 where they name none
abbrev pub refused_at : ℕ → ℕ → Checked
refused_at e n = record { number = n; slot = e }

-- 01 Numbers given, 40: untrue, with a slot
abbrev pub untrue_at : ℕ → Checked
untrue_at s = record { number = 40; slot = s }

-- 01 Numbers given, 40: with the lowest untrue slot, or 0 where End differs
abbrev pub verdict : Plan → Plan → List ℕ → Checked
verdict c p m =
    cond (eqb (end m) c.count)
    (cond (eqb (lowest (untrue c p m) c.count) 0) (unchecked 0) (untrue_at (lowest (untrue c p m) c.count)))
    (untrue_at 0)

-- 01 Order, checker: current, previous, 35, the reader's
abbrev pub faults : Plan → Plan → List ℕ → ℕ → List (Bool × ℕ)
faults c p m received =
    unless0 (plan_number c) ∷ unless0 (plan_number p) ∷ (eqb c.count 0, 35) ∷ unless0 (read m received).number ∷ []

-- 01 The plan, Order: checking a message of which some octets are received, beside the current plan c and the previous plan p;
-- past the plans' refusals `plans_entry` is 0
unfoldable pub check : Plan → Plan → List ℕ → ℕ → Checked
check c p m received = ruled (refused_at (plans_entry c p)) (faults c p m received) (verdict c p m)

-- 01 Truthful: the first rule that fails at slot i by the list's order, 0 for none; 0 past the plan's count
abbrev pub rule_at : Plan → Plan → List ℕ → ℕ → ℕ
rule_at c p m i = cond (ltb i c.count) (failing_rule (planned_at c p i) (suc i) (shown m i)) 0

-- the checker's answer, and what it leaves in the memory lent for the verdicts on the slots
pub record SlotsChecked : Type 0 where
  pub checked : Checked
  pub verdicts : List ℕ

-- with a refusal, which names entry e, the verdicts w stay as they were
abbrev pub unjudged : ℕ → List ℕ → ℕ → SlotsChecked
unjudged e w n = record { checked = refused_at e n; verdicts = w }

-- 01 Truthful: where End is the plan's count, each slot has its verdict; where it differs, none
abbrev pub judged : Plan → Plan → List ℕ → List ℕ → SlotsChecked
judged c p m w =
    record { checked = verdict c p m; verdicts = cond (eqb (end m) c.count) (each (rule_at c p m) 48) w }

-- 01 Order: checking slot by slot: 15 where the memory isn't 48 octets, then as the checker
unfoldable pub check_slots : Plan → Plan → List ℕ → ℕ → List ℕ → SlotsChecked
check_slots c p m received w =
    ruled (unjudged 0 w) ((not (eqb (length w) 48), 15) ∷ []) (ruled (unjudged (plans_entry c p) w) (faults c p m received) (judged c p m w))
