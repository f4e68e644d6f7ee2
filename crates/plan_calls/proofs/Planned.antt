-- Laws of what the plan room's answer packs into.
use Rattle.std.specs.Prelude.{Ok}
use Rattle.laws.proofs.Base.{◌≡◌, ap, List, ℕ, ◌≤◌, arith}
use Rattle.plan.specs.declared.Plan.{Plan}
use Rattle.plan_read.specs.Paper.{PlanRead, read_plan}
use Rattle.plan_read.specs.Coded.{reading_of}
use Rattle.plan.proofs.GoodPlan.{good_counted}
use Rattle.plan_read.proofs.ReadGood.{read_is_good}

module _ (f : List ℕ) where
  pub count_small : (x : Plan) → reading_of (Ok x) ≡ read_plan f → x.count ≤ 48
  count_small x e = omega (arith, good_counted (read_plan f).plan (read_is_good f), ap (λ (r : PlanRead). r.plan.count) e)
