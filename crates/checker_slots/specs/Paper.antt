-- Whether a slot is told truly, as a test by what is told, and which rule fails where it isn't. `accepted_exactly` and `slots_judged` of `checker_truth` join both to document 01's list, which goes by plan. Slots go by their numbers here, from 1.
use Rattle.std.specs.Prelude.{Bool, true, false, cond, not, ◌&&◌, ◌||◌, ℕ, eqb}
use Rattle.std.specs.Bool.{beq}
use Rattle.schedule.specs.Paper.{Told, first, again, optional, advised, Shown}
use Rattle.plan_slots.specs.Paper.{Planned}

-- 01 Truthful: the lowest slot with a page
abbrev pub leads : Planned → ℕ → Bool
leads v n = eqb v.kind 2 && eqb v.lowest n

-- 01 Truthful: a later slot with that page
abbrev pub repeats : Planned → ℕ → Bool
repeats v n = eqb v.kind 2 && not (eqb v.lowest n)

-- 01 Truthful: what may be told of a slot, by what is told; reserved descriptions are read as optional
abbrev pub may_tell : Planned → ℕ → Told → Bool
may_tell v n (first x) = leads v n && eqb x v.low
may_tell v n (again k) = repeats v n && eqb k v.lowest
may_tell v n optional = eqb v.kind 0 || repeats v n
may_tell v n advised = eqb v.kind 1 || eqb v.kind 2

-- 01 Truthful: the new bit beside a description: 1 for advised, 0 for optional, and for first and repeat 1 exactly if the previous plan lacks the page
abbrev pub new_for : Planned → Told → Bool
new_for v (first x) = v.fresh
new_for v (again n) = v.fresh
new_for v optional = false
new_for v advised = true

-- 01 Truthful: a slot is told truly, by what the plans say of it
abbrev pub true_by : Planned → ℕ → Shown → Bool
true_by v n s = may_tell v n s.told && beq s.new (new_for v s.told)

-- 01 Truthful, by the places in its list: the rule of what may be told of a slot: 1 the lowest slot with a page, 2 a later one, 3 planned optional, 4 planned advised
abbrev pub rule_for : Planned → ℕ → ℕ
rule_for v n = cond (leads v n) 1 (cond (repeats v n) 2 (cond (eqb v.kind 0) 3 4))

-- 01 Truthful: the first rule that fails at a slot: that of what may be told, then 5, the new bit; 0 where none fails
abbrev pub failing_rule : Planned → ℕ → Shown → ℕ
failing_rule v n s = cond (may_tell v n s.told) (cond (beq s.new (new_for v s.told)) 0 5) (rule_for v n)
