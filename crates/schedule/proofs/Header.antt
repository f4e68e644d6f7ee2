-- Laws of the header.
use Rattle.laws.proofs.Base.{◌≡◌, true, ◌&&◌, List, ℕ, ◌≤◌, leb, leb-true}
use Rattle.laws.proofs.Tests.{both}
use Rattle.schedule.specs.Paper.{begin, end, in_bounds}

-- a Begin and an End that are in bounds, rule by rule
pub within : (m : List ℕ) → in_bounds m ≡ true → (1 ≤ begin m) × (begin m ≤ end m) × (end m ≤ 48)
within m w =
    let rule = both (leb 1 (begin m)) (leb (begin m) (end m) && leb (end m) 48) w in
    let upper = both (leb (begin m) (end m)) (leb (end m) 48) rule.1 in
    (leb-true 1 (begin m) rule.0, leb-true (begin m) (end m) upper.0, leb-true (end m) 48 upper.1)
