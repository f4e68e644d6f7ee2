-- The code's values as the checker's numbers and tests.
use Rattle.std.specs.Prelude.{⊤, cond, List, ℕ, suc, ltb, get_or, Option, Some, None, Result, Ok, Err}
use Rattle.refusals.specs.Number.{number_of}
use Rattle.schedule.specs.Paper.{new, told}
use Rattle.plan_slots.specs.declared.Planned.{Planned}
use Rattle.plan_slots.specs.Coded.{planned_of}
use Rattle.plan_slots.specs.Inner.{nothing}
use Rattle.checker.specs.declared.SlotFault.{SlotFault}
use Rattle.checker_slots.specs.Paper.{failing_rule}
use Rattle.checker.specs.Paper.{Checked}

-- the rule that fails at slot i, of n, by what the code says of it and what a message tells of it at a place; 0 past the n slots
abbrev pub rule_from : Planned → List ℕ → ℕ → ℕ → ℕ → ℕ
rule_from v m at n i = cond (ltb i n) (failing_rule (planned_of v) (suc i) (record { new = new m i; told = told m at })) 0

-- the same of slot i by what an array says of all and the places of all descriptions
abbrev pub rule_by : List Planned → List ℕ → List ℕ → ℕ → ℕ → ℕ
rule_by v m p n i = rule_from (get_or v i nothing) m (get_or p i 0) n i

-- a slot found, by its number, or 0
abbrev pub slot_of : Option ℕ → ℕ
slot_of (Some i) = suc i
slot_of None = 0

-- 0 for a true message, or the refusal's number and the slot that comes with it
abbrev pub checked_of : Result ⊤ SlotFault → Checked
checked_of (Ok x) = record { number = 0; slot = 0 }
checked_of (Err f) = record { number = number_of f.refusal; slot = f.slot }
