-- The code's rules as document 01's places.
use Rattle.std.specs.Prelude.{ℕ, Option, Some, None}
use Rattle.checker_slots.specs.declared.Rule.{Rule}
use Rattle.checker_slots.specs.declared.Rule.TheVariants.{Lowest, Later, Optional, Advised, NewBit}

-- 01 Truthful: a rule by its place in the list
abbrev pub rule_of : Rule → ℕ
rule_of Lowest = 1
rule_of Later = 2
rule_of Optional = 3
rule_of Advised = 4
rule_of NewBit = 5

-- the rule that fails, or 0
abbrev pub failing_of : Option Rule → ℕ
failing_of (Some r) = rule_of r
failing_of None = 0
