-- The places that opening and calls of the reader of descriptions reach.
use Rattle.laws.proofs.Base.{◌≡◌, ap, ◌∙◌, List, ℕ, zero, suc, ◌+◌, min, arith, lt-ltb, le-ltb}
use Rattle.laws.proofs.Tests.{le_or_lt}
use Rattle.schedule.specs.Paper.{end, given_at, given}
use Rattle.descriptions.specs as defs
use defs.Paper.{passed, reached, Ordered, ordered}
use defs.Claims.{ReachedLeast}
use Rattle.descriptions.proofs.Stepping.{Told, refused, whole, told}

module _ (m : List ℕ) (received : ℕ) where
  least : (k : ℕ) → reached m received k ≡ min k (ordered m received).count
  least zero = omega arith
  least (suc k) = go (told m received) (least k)
    where
      slots : (p : ℕ) → p ≡ min k (end m) → p + passed (given_at m p) ≡ min (suc k) (end m)
      slots p q = le_or_lt (end m) p (λ past. rw (le-ltb p (end m) past) (omega arith)) (λ within. rw (lt-ltb p (end m) within) (omega arith))

      go : Told m received → reached m received k ≡ min k (ordered m received).count
          → reached m received k + passed (given m received (reached m received k)) ≡ min (suc k) (ordered m received).count
      go (refused n h o) q =
          let none : (ordered m received).count ≡ 0 = ap (λ (x : Ordered). x.count) o in
          rw (h (reached m received k)) (omega arith)
      go (whole w h o) q =
          let all : (ordered m received).count ≡ end m = ap (λ (x : Ordered). x.count) o in
          rw (h (reached m received k), all) (slots (reached m received k) (q ∙ ap (min k) all))

pub reached_least : ReachedLeast
reached_least = least
