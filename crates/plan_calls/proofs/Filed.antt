-- Laws of two plan files that are read together.
use Rattle.std.specs.Prelude.{Ok, Err}
use Rattle.laws.proofs.Base.{◌≡◌, sym, ap, inl, inr, List, ℕ, ne_eqb, subst}
use Rattle.laws.specs.Ruled.{ruled}
use Rattle.refusals.specs.Number.{number_of}
use Rattle.refusals.proofs.Inverse.{number_of_positive}
use Rattle.plan.specs.declared.Fault.{Fault}
use Rattle.plan.specs.declared.Plan.{Plan as PlanCode}
use Rattle.plan.specs.Paper.{naming}
use Rattle.plan.specs.Coded.{plan_of}
use Rattle.plan_read.specs.Paper.{PlanRead, read_plan}
use Rattle.plan_read.proofs.Named.{read_named}
use Rattle.plan_calls.specs as defs
use defs.Paper.{file_faults, files_entry}
use defs.Inner.{Both}

-- where one is refused: what its number answers, and the entry that is named
module _ (c p : List ℕ) (f : Fault) (e : Both c p (Err f)) where
  pub files_refused : {A : Type 0} (by : ℕ → A) (x : A) → by (number_of f.refusal) ≡ ruled by (file_faults c p) x
  files_refused {A} by x = go e
    where
      go : Both c p (Err f) → by (number_of f.refusal) ≡ ruled by (file_faults c p) x
      go (inl d) = rw (← d, ne_eqb (number_of f.refusal) 0 (number_of_positive f.refusal))
      go (inr d) = rw (d.0, ← d.1, ne_eqb (number_of f.refusal) 0 (number_of_positive f.refusal))

  pub files_entry_lem : files_entry c p ≡ f.entry
  files_entry_lem = go e
    where
      go : Both c p (Err f) → files_entry c p ≡ f.entry
      go (inl d) = rw (← d, ne_eqb (number_of f.refusal) 0 (number_of_positive f.refusal))
      go (inr d) = rw (d.0, ← d.1)

  -- the number names the entry
  pub files_named : naming (number_of f.refusal) f.entry ≡ f.entry
  files_named = go e
    where
      named : (l : List ℕ) {r : PlanRead} → r ≡ read_plan l → naming r.number r.entry ≡ r.entry
      named l q = subst (λ (r : PlanRead). naming r.number r.entry ≡ r.entry) (sym q) (read_named l)

      go : Both c p (Err f) → naming (number_of f.refusal) f.entry ≡ f.entry
      go (inl d) = named c d
      go (inr d) = named p d.1

-- where both are good: what stands behind their tests, and their plans
module _ (c p : List ℕ) (q : PlanCode × PlanCode) (e : Both c p (Ok q)) where
  pub files_good : {A : Type 0} (by : ℕ → A) (x : A) → x ≡ ruled by (file_faults c p) x
  files_good by x = rw (← e.0, ← e.1)

  pub current_read : plan_of q.0 ≡ (read_plan c).plan
  current_read = ap (λ (r : PlanRead). r.plan) e.0

  pub previous_read : plan_of q.1 ≡ (read_plan p).plan
  previous_read = ap (λ (r : PlanRead). r.plan) e.1
