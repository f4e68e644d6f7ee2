-- `plan_read::entry_at` meets its contract: two numbers are each joined of two octets.
use Rattle.laws.proofs.Base.{◌≡◌, List, ℕ, ◌+◌, ◌*◌, add-zero, add_assoc, get_or, drop, get_or-drop}
use Rattle.plan_read.specs.Paper.{entry_in}
use Rattle.plan_read.proofs.entry_at.Goals as goal

joined : (f : List ℕ) (at s n : ℕ) → s ≡ get_or f (at + 1) 0 * 256 + get_or f (at + 1 + 1) 0 → n ≡ get_or f (at + 3) 0 * 256 + get_or f (at + 3 + 1) 0
    → record { kind = get_or f at 0; serial = s; id = n; parameter = get_or f (at + 5) 0 } ≡ entry_in (drop at f)
unfolding entry_in
joined f at s n p q = simp (get_or-drop, add-zero, p, q, add_assoc)

pub returns : goal.returns
returns c =
    let a = c.args in
    joined a.file.now a.at _ _ c.sixteen_at.ensures c.sixteen_at-2.ensures
