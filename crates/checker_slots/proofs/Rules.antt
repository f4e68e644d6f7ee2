-- Laws of the rules that fail.
use Rattle.laws.proofs.Base.{◌≡◌, refl, Bool, true, false, cond, ◌&&◌, bool_beq, ℕ, eqb}
use Rattle.schedule.specs.Paper.{Shown}
use Rattle.plan_slots.specs.Paper.{Planned}
use Rattle.checker_slots.specs.Paper.{leads, repeats, may_tell, new_for, true_by, failing_rule}

-- no rule fails exactly where a slot is told truly
pub rule_true : (v : Planned) (n : ℕ) (s : Shown) → eqb (failing_rule v n s) 0 ≡ true_by v n s
rule_true v n s = go (may_tell v n s.told) (bool_beq s.new (new_for v s.told)) (leads v n) (repeats v n) (eqb v.kind 0)
  where
    go : (a b l r k : Bool) → eqb (cond a (cond b 0 5) (cond l 1 (cond r 2 (cond k 3 4)))) 0 ≡ (a && b)
    go true true l r k = refl
    go true false l r k = refl
    go false b true r k = refl
    go false b false true k = refl
    go false b false false true = refl
    go false b false false false = refl
