-- A contract that says what is left settles it.
use Rattle.laws.proofs.Base.{sym, ap, ◌∙◌, ℕ}
use Rattle.calls.specs as defs
use defs.Paper.{CallLeft}
use defs.Claims.{Settles, SettlesNumber}

pub settles : (l : CallLeft) → Settles l
settles l r s x y a b = let e = a ∙ sym b in (ap (λ (z : CallLeft). z.returned) e, ap (λ (z : CallLeft). z.memory) e)

pub settles_number : (n : ℕ) → SettlesNumber n
settles_number n r s a b = a ∙ sym b
