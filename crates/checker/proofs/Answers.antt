-- Which test of the checker answers, each case on plain facts.
use Rattle.laws.proofs.Base.{◌≡◌, List, ℕ, length, eq-eqb, ne_eqb}
use Rattle.checker_plans.specs.Inner.{Plans}
use Rattle.checker.specs as defs
use defs.Paper.{unjudged}
use defs.Inner.{compared, slots_beside}

module _ (b : Plans) (m : List ℕ) (received : ℕ) (w : List ℕ) where
  pub length_refused : (length w ≡ 48 → ⊥) → unjudged 0 w 15 ≡ slots_beside b m received w
  unfolding slots_beside
  length_refused e = rw (ne_eqb (length w) 48 e)

  module _ (room : length w ≡ 48) where
    pub plans_refused : (n s : ℕ) → (n ≡ 0 → ⊥) → n ≡ b.number → s ≡ b.entry → unjudged s w n ≡ slots_beside b m received w
    unfolding slots_beside
    plans_refused n s z e q = rw (eq-eqb (length w) 48 room, ← e, ← q, ne_eqb n 0 z)

    pub plans_good : b.number ≡ 0 → compared b.count b.said m received w ≡ slots_beside b m received w
    unfolding slots_beside
    plans_good z = rw (eq-eqb (length w) 48 room, z)
