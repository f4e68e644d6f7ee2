-- `packing::unpack_all` meets its contract: after g turns the first g groups of seven octets stand as eight septets each.
use Rattle.laws.proofs.Base.{◌≡◌, ◌*◌, ◌/◌, length, take}
use Rattle.laws.specs.Radix.{value, digits}
use Rattle.packing.proofs.unpack_all.Given as goal

abbrev pub invariant-loop-g : goal.invariant-loop-g
invariant-loop-g l =
    (l.groups ≡ length l.octets / 7)
    × (length l.septets ≡ length l.initial.septets)
    × (take (8 * l.g) l.septets ≡ digits 128 (8 * l.g) (value 256 (take (7 * l.g) l.octets)))
