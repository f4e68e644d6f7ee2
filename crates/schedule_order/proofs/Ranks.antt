-- The order of the descriptions is one of all slots up to End: each has a place in it, its rank, and each place a slot.
use Rattle.laws.proofs.Base.{◌≡◌, refl, sym, ap, ◌∙◌, Bool, true, false, List, ℕ, ◌+◌, ◌-◌, ◌<◌, arith, length, length-append, ltb, ltb-true, ltb-false}
use Rattle.laws.specs.Upto.{count, picked}
use Rattle.laws.proofs.Upto.{count_grows, count_onto, picked_length}
use Rattle.schedule.specs.Paper.{end, new, grouped, base, rank, order, slot_of}
use Rattle.schedule.proofs.News.{grouped_own, grouped_is}
use Rattle.schedule.proofs.Order.{groups_whole, order_picks}

module _ (m : List ℕ) where
  pub length_order : length (order m) ≡ end m
  unfolding order
  length_order =
      length-append (picked (grouped m true) (end m)) (picked (grouped m false) (end m))
      ∙ rw (picked_length (grouped m true) (end m), picked_length (grouped m false) (end m)) (groups_whole m)

  -- a slot's rank is its place in the order
  pub order_rank : (i : ℕ) → i < end m → slot_of m (rank m i) ≡ i
  order_rank i l = order_picks m (new m i) (count (grouped m (new m i)) i) i (record { below = l; passes = grouped_own m i; before = refl })

  pub rank_below : (i : ℕ) → i < end m → rank m i < end m
  rank_below i l = go (new m i) (count_grows (grouped m (new m i)) (end m) i l (grouped_own m i))
    where
      go : (b : Bool) → count (grouped m b) i < count (grouped m b) (end m) → base m b + count (grouped m b) i < end m
      go true h = omega (arith, groups_whole m)
      go false h = omega (arith, groups_whole m)

  -- slots of one rank are one slot
  pub rank_injective : (i j : ℕ) → i < end m → j < end m → rank m i ≡ rank m j → i ≡ j
  rank_injective i j l h e = sym (order_rank i l) ∙ ap (slot_of m) e ∙ order_rank j h

  -- each number below End is the rank of a slot
  pub record Ranked (k : ℕ) : Type 0 where
    pub slot : ℕ
    pub below : slot < end m
    pub ranks : rank m slot ≡ k

  ranked : (b : Bool) (k j : ℕ) → j < count (grouped m b) (end m) → k ≡ base m b + j → Ranked k
  ranked b k j h e =
      let w = count_onto (grouped m b) (end m) j h in
      record { slot = w.at; below = w.below; ranks = rw (grouped_is m w.at b w.passes, w.before) (sym e) }

  pub rank_onto : (k : ℕ) → k < end m → Ranked k
  rank_onto k l = go (ltb k (count (grouped m true) (end m))) refl
    where
      go : (b : Bool) → ltb k (count (grouped m true) (end m)) ≡ b → Ranked k
      go true e = ranked true k k (ltb-true k (count (grouped m true) (end m)) e) (omega arith)
      go false e =
          let far = ltb-false k (count (grouped m true) (end m)) e in
          ranked false k (k - count (grouped m true) (end m)) (omega (arith, groups_whole m)) (omega arith)

  order_slot : (k : ℕ) (l : k < end m) → slot_of m k ≡ (rank_onto k l).slot
  order_slot k l = let w = rank_onto k l in ap (slot_of m) (sym w.ranks) ∙ order_rank w.slot w.below

  -- what the order has is a slot up to End
  pub order_below : (k : ℕ) → k < end m → slot_of m k < end m
  order_below k l = rw (order_slot k l) (rank_onto k l).below

  -- the slot that is given after k others has the rank k
  pub rank_order : (k : ℕ) → k < end m → rank m (slot_of m k) ≡ k
  rank_order k l = ap (rank m) (order_slot k l) ∙ (rank_onto k l).ranks
