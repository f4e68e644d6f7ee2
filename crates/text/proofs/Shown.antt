-- Laws of what reading leaves of some characters, whatever fills the places past them.
use Rattle.laws.proofs.Base.{◌≡◌, refl, List, ◌++◌, ℕ, ◌-◌, ◌≤◌, arith, length, take, drop, replicate, length-append, length-replicate, length-map, take_at, drop_at}
use Rattle.text.specs.Paper.{Character, points, shown_with}

pub length_points : (l : List Character) → length (points l) ≡ length l
length_points l = length-map l (λ (x : Character). x.point)

module _ (fill : ℕ) (l : List Character) where
  pub shown_number : (shown_with fill l).number ≡ 0
  unfolding shown_with
  shown_number = refl

  pub shown_characters : (shown_with fill l).characters ≡ length l
  unfolding shown_with
  shown_characters = refl

  -- the characters stand in front, and the fill in the rest of the 93
  pub shown_parts : (shown_with fill l).text ≡ points l ++ replicate (93 - length l) fill
  unfolding shown_with
  shown_parts = rw (length_points l)

  pub shown_front : take (length l) (shown_with fill l).text ≡ points l
  shown_front = rw shown_parts (take_at (points l) (replicate (93 - length l) fill) (length l) (length_points l))

  pub shown_rest : drop (length l) (shown_with fill l).text ≡ replicate (93 - length l) fill
  shown_rest = rw shown_parts (drop_at (points l) (replicate (93 - length l) fill) (length l) (length_points l))

  pub shown_size : length l ≤ 93 → length (shown_with fill l).text ≡ 93
  shown_size few = rw shown_parts (simp (length-append, length-replicate, length_points l) (omega arith))
