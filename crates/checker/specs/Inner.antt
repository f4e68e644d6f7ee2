-- A message checked by what two plans say, found once for any number of messages.
use Rattle.std.specs.Prelude.{Bool, cond, not, List, [], ◌∷◌, ℕ, suc, eqb, ltb, length, get_or}
use Rattle.laws.specs.Ruled.{ruled, unless0}
use Rattle.laws.specs.Upto.{lowest, each}
use Rattle.schedule.specs.Paper.{shown, end, read}
use Rattle.plan_slots.specs.Paper.{Planned}
use Rattle.plan_slots.specs.Inner.{none_planned}
use Rattle.checker_slots.specs.Paper.{true_by, failing_rule}
use Rattle.checker_plans.specs.Inner.{Plans}
use Rattle.checker.specs.Paper.{Checked, unchecked, untrue_at, SlotsChecked, unjudged}

-- a verdict is a rule
abbrev pub is_broken : ℕ → Bool
is_broken v = not (eqb v 0)

-- a slot's verdict is a rule that fails
abbrev pub breaks : List ℕ → ℕ → Bool
breaks w i = is_broken (get_or w i 0)

-- 01 Numbers given, 40: what a message shows of a slot is untrue by what is said of it
abbrev pub untrue_to : List Planned → List ℕ → ℕ → Bool
untrue_to v m i = not (true_by (get_or v i (none_planned 0)) (suc i) (shown m i))

-- 01 Truthful: the rule that fails at a slot by what is said of it, 0 past the count
abbrev pub rule_to : ℕ → List Planned → List ℕ → ℕ → ℕ
rule_to n v m i = cond (ltb i n) (failing_rule (get_or v i (none_planned 0)) (suc i) (shown m i)) 0

-- 01 Numbers given, 40: with the lowest untrue slot, or 0 where End differs
abbrev pub verdict_to : ℕ → List Planned → List ℕ → Checked
verdict_to n v m =
    cond (eqb (end m) n)
    (cond (eqb (lowest (untrue_to v m) n) 0) (unchecked 0) (untrue_at (lowest (untrue_to v m) n)))
    (untrue_at 0)

-- 01 Truthful: the verdict, and that on each slot where End doesn't differ
abbrev pub judged_to : ℕ → List Planned → List ℕ → List ℕ → SlotsChecked
judged_to n v m w = record { checked = verdict_to n v m; verdicts = cond (eqb (end m) n) (each (rule_to n v m) 48) w }

-- 01 Order, checker: after the plans' numbers the reader's
unfoldable pub compared : ℕ → List Planned → List ℕ → ℕ → List ℕ → SlotsChecked
compared n v m received w = ruled (unjudged 0 w) (unless0 (read m received).number ∷ []) (judged_to n v m w)

-- 01 Order: checking a message of which some octets are received by what is said, slot by slot
unfoldable pub slots_beside : Plans → List ℕ → ℕ → List ℕ → SlotsChecked
slots_beside b m received w =
    ruled (unjudged 0 w) ((not (eqb (length w) 48), 15) ∷ [])
    (ruled (unjudged b.entry w) (unless0 b.number ∷ []) (compared b.count b.said m received w))
