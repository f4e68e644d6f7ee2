-- Whatever is read from a plan file is a good plan.
use Rattle.laws.proofs.Base.{◌≡◌, refl, Bool, true, false, eqb, eqb-true, eqb-false}
use Rattle.laws.specs.Search.{some}
use Rattle.plan.specs.Paper.{filled_plan, empty, plan_number}
use Rattle.plan_read.specs as defs
use defs.Paper.{listed, read_plan}
use defs.Claims.{ReadIsGood}
use defs.Inner.{front_number}
use Rattle.plan_read.proofs.Answers.{front_refuses, front_passes}

empty_good : plan_number empty ≡ 0
unfolding plan_number some
empty_good = refl

pub read_is_good : ReadIsGood
read_is_good f = go (eqb (front_number f) 0) refl (eqb (plan_number (filled_plan (listed f))) 0) refl
  where
    go : (a : Bool) → eqb (front_number f) 0 ≡ a → (b : Bool) → eqb (plan_number (filled_plan (listed f))) 0 ≡ b → plan_number (read_plan f).plan ≡ 0
    go true p true q = rw (front_passes f (eqb-true (front_number f) 0 p), q) (eqb-true (plan_number (filled_plan (listed f))) 0 q)
    go true p false q = rw (front_passes f (eqb-true (front_number f) 0 p), q) empty_good
    go false p b q = rw (front_refuses f (front_number f) refl (eqb-false (front_number f) 0 p)) empty_good
