-- Two answers that meet a contract of `packing` are equal.
use Rattle.laws.proofs.Base.{◌≡◌, List, ℕ}
use Rattle.laws.specs.Determined.{Determined}
use Rattle.laws.proofs.Determined.{determined}
use Rattle.packing.specs.Inner.{unpacked_into}

pub determined_unpack : (octets septets : List ℕ) → Determined (λ (r : List ℕ). r ≡ unpacked_into octets septets)
determined_unpack octets septets = determined
