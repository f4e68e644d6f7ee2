-- What is unpacked where there is room for just the septets, and that other room stays as it was.
use Rattle.laws.proofs.Base.{◌≡◌, List, ℕ, ◌+◌, ◌/◌, length, eq-eqb, ne_eqb}
use Rattle.laws.specs.Radix.{value, digits}
use Rattle.packing.specs.Inner.{unpacked_into}

pub unpacked_into_lem : (o s : List ℕ) → length s ≡ length o + length o / 7 → unpacked_into o s ≡ digits 128 (length s) (value 256 o)
unfolding unpacked_into
unpacked_into_lem o s e = simp (eq-eqb (length s) (length o + length o / 7) e)

pub unpacked_kept : (o s : List ℕ) → (length s ≡ length o + length o / 7 → ⊥) → s ≡ unpacked_into o s
unfolding unpacked_into
unpacked_kept o s ne = simp (ne_eqb (length s) (length o + length o / 7) ne)
