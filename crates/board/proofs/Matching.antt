-- Laws of wanted lists: the loop that looks through one, and which identifiers match.
use Rattle.laws.proofs.Base.{◌≡◌, refl, ap, Bool, true, false, ◌&&◌, not, List, ℕ, ◌+◌, ◌-◌, ◌%◌, ◌<◌, le_refl, mod-mod, length, get_or, take, take_all, eqb, eq-eqb, ne_eqb, eqb-true}
use Rattle.laws.specs.Search.{some}
use Rattle.laws.proofs.Search.{some_turn, some_found, some_implies, some_agree}
use Rattle.schedule.specs.Paper.{Told, first, again, optional, advised}
use Rattle.board_held.specs.Paper.{is_held}
use Rattle.board.specs as defs
use defs.Paper.{Wanted, matches15, is_wanted, first_matches, reads_for}
use defs.Inner.{counted}
use defs.Coded.{lent_wanted}

module _ (x : ℕ) (ids : List ℕ) (i : ℕ) (inside : i < length ids) where
  -- one of them matches
  pub matches_found : get_or ids i 0 % 0x8000 ≡ x % 0x8000 → is_wanted (lent_wanted ids) x ≡ true
  unfolding is_wanted
  matches_found e = some_found (matches15 x) 0 (length ids) ids i inside inside (eq-eqb _ _ e)

  -- none of the first so far, and not the next
  pub matches_turn : (get_or ids i 0 % 0x8000 ≡ x % 0x8000 → ⊥) → is_wanted (counted i ids) x ≡ false → is_wanted (counted (i + 1) ids) x ≡ false
  unfolding is_wanted
  matches_turn e before = some_turn (matches15 x) 0 ids i inside before (ne_eqb _ _ e)

-- the first n of a list are wanted as the part that ends there
module _ (n : ℕ) (ids : List ℕ) where
  part_wanted : (x : ℕ) → is_wanted (lent_wanted (take n ids)) x ≡ is_wanted (counted n ids) x
  unfolding is_wanted
  part_wanted x = ap (some (matches15 x)) (take_all (length (take n ids)) (take n ids) (le_refl _))

  part_matches : (d : Told) → first_matches (lent_wanted (take n ids)) d ≡ first_matches (counted n ids) d
  part_matches (first x) = part_wanted x
  part_matches (again k) = refl
  part_matches optional = refl
  part_matches advised = refl

  pub part_reads : (t : ℕ → Told) (h : ℕ) (d : Told) → reads_for t (lent_wanted (take n ids)) h d ≡ reads_for t (counted n ids) h d
  part_reads t h (first x) = part_wanted x
  part_reads t h (again k) = ap (λ (b : Bool). b && not (is_held h k)) (part_matches (t (k - 1)))
  part_reads t h optional = refl
  part_reads t h advised = refl

-- the low 15 bits of an identifier match what it matches
pub low15_wanted : (w : Wanted) (x : ℕ) → is_wanted w (x % 0x8000) ≡ is_wanted w x
unfolding is_wanted
low15_wanted w x = some_agree (matches15 (x % 0x8000)) (matches15 x) (λ y. ap (eqb (y % 0x8000)) (mod-mod x 0x8000)) (take w.count w.ids)

-- an identifier that is wanted, all 16 bits of it, matches
pub wanted_matches : (w : Wanted) (x : ℕ) → some (λ (y : ℕ). eqb y x) (take w.count w.ids) ≡ true → is_wanted w x ≡ true
unfolding is_wanted
wanted_matches w x e = some_implies (λ (y : ℕ). eqb y x) (matches15 x) (λ y q. eq-eqb _ _ (ap (λ (z : ℕ). z % 0x8000) (eqb-true y x q))) (take w.count w.ids) e
