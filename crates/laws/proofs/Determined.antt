-- Contracts that are one equation leave no room for two answers.
use Rattle.laws.proofs.Base.{◌≡◌, sym, ◌∙◌}
use Rattle.laws.specs.Determined.{Determined}

pub determined : {A : Type 0} {x : A} → Determined (λ (r : A). r ≡ x)
determined r s a b = a ∙ sym b

-- so too where the answer is known by what it is taken to
pub determined_by : {A B : Type 0} (f : A → B) {x : B} → ((r s : A) → f r ≡ f s → r ≡ s) → Determined (λ (r : A). f r ≡ x)
determined_by f back r s a b = back r s (a ∙ sym b)
