-- A text that is made in the lent places: what was read, and the fill behind it.
use Rattle.laws.proofs.Base.{◌≡◌, ◌∙◌, List, [], ◌++◌, append-nil, ℕ, ◌-◌, ◌≤◌, le_refl, arith, length, take, drop}
use Rattle.laws.proofs.Base.{replicate, length-drop, drop_of_length-le, length-take-le}
use Rattle.text.specs.Paper.{shown, points, places}
use Rattle.text.proofs.Shown.{length_points}
use Rattle.text_reader.specs.Inner.{Read}

-- d is a text that begins with what septets s are read as, and z is the rest, filled
pub shown_made : (s d z : List ℕ) (n fill : ℕ) → length d ≡ 93 → length (shown s) ≤ 93 → Read s n d
    → z ≡ replicate (length (take (length d - n) (drop n d))) fill
    → take n d ++ (z ++ drop (length d - n) (drop n d)) ≡ places fill (points (shown s))
shown_made s d z n fill l hs read ez =
    let room : length (take (length d - n) (drop n d)) ≡ 93 - length (points (shown s)) =
    length-take-le (length d - n) (drop n d) (rw length-drop (le_refl _)) ∙ omega (arith, read.count, l, length_points (shown s)) in
    let none : drop (length d - n) (drop n d) ≡ [] = drop_of_length-le (drop n d) {i = length d - n} (rw length-drop (le_refl _)) in
    rw (none, append-nil z, read.front, ez, room)
