-- The order of the descriptions: the slots of one group after those of the other.
use Rattle.laws.proofs.Base.{◌≡◌, Bool, true, false, List, ℕ, ◌+◌, ◌<◌, zero-add, arith, length, list_get_d_append, get_or-append-add}
use Rattle.laws.specs.Upto.{count, picked}
use Rattle.laws.proofs.Upto.{count_grows, count_rest, picked_length, picked_at}
use Rattle.schedule.specs as defs
use defs.Paper.{end, grouped, base, order, slot_of}
use defs.Inner.{Picks}
use Rattle.schedule.proofs.News.{grouped_flip}

module _ (m : List ℕ) where
  -- the two groups make up the slots up to End
  pub groups_whole : count (grouped m true) (end m) + count (grouped m false) (end m) ≡ end m
  groups_whole = count_rest (grouped m true) (grouped m false) (λ i. grouped_flip m i) (end m)

  -- the slot that the order has after k others of its group
  pub order_picks : (b : Bool) (k i : ℕ) → Picks m b k i → slot_of m (base m b + k) ≡ i
  unfolding order
  order_picks true k i w =
      let news = picked (grouped m true) (end m) in
      let inside : k < length news =
      omega (arith, picked_length (grouped m true) (end m), count_grows (grouped m true) (end m) i w.below w.passes, w.before) in
      rw (zero-add k, list_get_d_append news (picked (grouped m false) (end m)) 0 k inside, ← w.before)
      (picked_at (grouped m true) (end m) i w.below w.passes)
  order_picks false k i w =
      let news = picked (grouped m true) (end m) in
      rw (← picked_length (grouped m true) (end m), get_or-append-add news (picked (grouped m false) (end m)) k 0, ← w.before)
      (picked_at (grouped m false) (end m) i w.below w.passes)
