-- What the inner functions give, in the paper's terms.
use Rattle.std.specs.Prelude.{cond, ℕ, suc, eqb}
use Rattle.schedule.specs.Paper.{first, again, optional, advised, Shown}
use Rattle.plan_slots.specs.Paper.{Planned}

-- what is told of slot i by what the plans say of it
unfoldable pub shown_by : Planned → ℕ → Shown
shown_by v i =
    record {
      new = cond (eqb v.kind 2) v.fresh (eqb v.kind 1);
      told = cond (eqb v.kind 2)
          (cond (eqb v.lowest (suc i)) (first v.low) (again v.lowest))
          (cond (eqb v.kind 1) advised optional);
    }
