-- Answers that meet a contract of `checker_slots` are equal.
use Rattle.laws.proofs.Base.{◌≡◌, refl, sym, ap, ◌∙◌, cond, ℕ, eqb}
use Rattle.std.specs.Prelude.{Option, Some, None}
use Rattle.laws.specs.Determined.{Determined}
use Rattle.laws.proofs.Determined.{determined, determined_by}
use Rattle.schedule.specs.declared.Slot.{Slot}
use Rattle.schedule.specs.Coded.{shown_of}
use Rattle.plan_slots.specs.declared.Planned.{Planned}
use Rattle.plan_slots.specs.Coded.{planned_of}
use Rattle.checker_slots.specs as defs
use defs.declared.Rule.{Rule}
use defs.declared.Rule.TheVariants.{Lowest, Later, Optional, Advised, NewBit}
use defs.Paper.{failing_rule}
use defs.Coded.{rule_of, failing_of}

-- the code's answer by the paper's
abbrev failing_from : ℕ → Option Rule
failing_from n =
    cond (eqb n 0) None
    (cond (eqb n 1) (Some Lowest)
    (cond (eqb n 2) (Some Later)
    (cond (eqb n 3) (Some Optional)
    (cond (eqb n 4) (Some Advised) (Some NewBit)))))

failing_from_failing_of : (r : Option Rule) → failing_from (failing_of r) ≡ r
failing_from_failing_of None = refl
failing_from_failing_of (Some Lowest) = refl
failing_from_failing_of (Some Later) = refl
failing_from_failing_of (Some Optional) = refl
failing_from_failing_of (Some Advised) = refl
failing_from_failing_of (Some NewBit) = refl

failing_injective : (r s : Option Rule) → failing_of r ≡ failing_of s → r ≡ s
failing_injective r s e = sym (failing_from_failing_of r) ∙ ap failing_from e ∙ failing_from_failing_of s

pub determined_rule : (rule : Rule) → Determined (λ (r : ℕ). r ≡ rule_of rule)
determined_rule rule = determined

pub determined_failing_rule : (planned : Planned) (number : ℕ) (slot : Slot)
    → Determined (λ (r : Option Rule). failing_of r ≡ failing_rule (planned_of planned) number (shown_of slot))
determined_failing_rule planned number slot = determined_by failing_of failing_injective
