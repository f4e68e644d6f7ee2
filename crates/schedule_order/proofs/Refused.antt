-- A message is refused by 24 exactly when the tests before it pass and a slot has a false repeat.
use Rattle.laws.proofs.Base.{◌≡◌, refl, sym, ap, ◌∙◌, Bool, true, false, not, cond, ◌||◌, false≢true, List, [], ◌∷◌, ◌++◌, ◌↔◌, inl, inr, ⊎_elim, ℕ, suc}
use Rattle.laws.proofs.Base.{◌+◌, ◌-◌, ◌≤◌, ◌<◌, arith, length, eqb, leb, ltb, eq-eqb, eqb-true, le-leb, leb-true, le-ltb, ltb-false, not-true, not-false}
use Rattle.sizes.specs.Paper.{whole_blocks}
use Rattle.laws.specs.Upto.{some_below}
use Rattle.laws.proofs.Outcome.{ruled_past}
use Rattle.laws.proofs.Ruled.{NoneHolds, ruled_map}
use Rattle.laws.proofs.Tests.{either}
use Rattle.laws.proofs.Upto.{some_none, some_false, some_at, some_passing}
use Rattle.schedule.specs.Paper.{type, begin, end, new, place, rank, slot_of, tells, Told, first, again, optional, advised}
use Rattle.schedule.specs.Paper.{is_first, false_in, false_repeat, in_bounds, new_past, head_faults, faults, Read, unread, good, read}
use Rattle.schedule.proofs.Answers.{not_among}
use Rattle.schedule.proofs.Header.{within}
use Rattle.schedule.proofs.News.{new_past_from}
use Rattle.schedule.proofs.Places.{place_next, place_after}
use Rattle.schedule.proofs.Repeats.{false_zero, false_late, false_other}
use Rattle.schedule_order.specs.Claims.{Reaches24, FalseRepeat, RefusedBy24}
use Rattle.schedule_order.proofs.Ranks.{order_below, rank_below, rank_order}

module _ (m : List ℕ) where
  -- a false repeat by what it is
  false_because : (i : ℕ) → i < end m → (d : Told) → tells m i ≡ d → false_in (tells m) i d ≡ true → FalseRepeat m
  false_because i l (first x) e h = absurd (false≢true h)
  false_because i l (again n) e h =
      record {
        slot = i;
        below = l;
        number = n;
        repeats = e;
        why =
            ⊎_elim (λ a. inl (eqb-true n 0 a))
            (λ w. inr
            (⊎_elim (λ a. inl (omega (arith, leb-true (suc i) n a))) (λ a. inr (not-true (is_first (tells m (n - 1))) a))
            (either (leb (suc i) n) (not (is_first (tells m (n - 1)))) w)))
            (either (eqb n 0) (leb (suc i) n || not (is_first (tells m (n - 1)))) h);
      }
  false_because i l optional e h = absurd (false≢true h)
  false_because i l advised e h = absurd (false≢true h)

  found : some_below (false_repeat (tells m)) (end m) ≡ true → FalseRepeat m
  found h = let w = some_passing (false_repeat (tells m)) (end m) h in false_because w.at w.below (tells m w.at) refl w.passes

  told_of : FalseRepeat m → some_below (false_repeat (tells m)) (end m) ≡ true
  told_of f =
      some_at (false_repeat (tells m)) (end m) f.slot f.below
      (⊎_elim (false_zero (tells m) f.slot f.number f.repeats)
      (⊎_elim (λ l. false_late (tells m) f.slot f.number f.repeats (omega arith)) (false_other (tells m) f.slot f.number f.repeats))
      f.why)

  module _ (received : ℕ) where
    -- the tests before 24
    abbrev before : List (Bool × ℕ)
    before = head_faults m received ++ ((ltb received (place m (end m)), 23) ∷ [])

    -- 24 itself
    abbrev itself : List (Bool × ℕ)
    itself = (some_below (false_repeat (tells m)) (end m), 24) ∷ []

    reaches : NoneHolds before → Reaches24 m received
    reaches h =
        let bounds = within m (not-false (in_bounds m) h.1.1.1.0) in
        let received_all = ltb-false received (place m (end m)) h.1.1.1.1.1.0 in
        record {
          whole = eqb-true (length m) 88 (not-false (eqb (length m) 88) h.0);
          blocks = not-false (whole_blocks received) h.1.0;
          kind = eqb-true (type m) 0 (not-false (eqb (type m) 0) h.1.1.0);
          begins = record { from = bounds.0; upto = bounds.1 };
          last = bounds.2;
          old = λ i l b. sym (new_past_from m i (new m i) (omega arith) refl) ∙ some_false (new_past m) 48 i h.1.1.1.1.0 b;
          inside = λ i l. omega (arith, place_after m (rank m i) (end m) (rank_below m i l));
        }

    module _ (r : Reaches24 m received) where
      -- the place after all descriptions is where that of the last one ends
      reached : place m (end m) ≤ received
      reached =
          let k : ℕ = end m - 1 in
          let low : k < end m = omega (arith, r.begins.from, r.begins.upto) in
          let fits = rw (rank_order m k low) at (r.inside (slot_of m k) (order_below m k low)) in
          let ends : end m ≡ k + 1 = omega (arith, r.begins.from, r.begins.upto) in
          omega (arith, ap (place m) ends, place_next m k, fits)

      old_past : (i : ℕ) → i < 48 → new_past m i ≡ false
      old_past i l = go (leb (end m) i) refl
        where
          go : (b : Bool) → leb (end m) i ≡ b → new_past m i ≡ false
          go true e = let past = leb-true (end m) i e in new_past_from m i false past (sym (r.old i (omega arith) l))
          go false e = rw e

    by_24 : ((read m received).number ≡ 24) ↔ (Reaches24 m received × FalseRepeat m)
    unfolding read
    by_24 = (there, back)
      where
        holds : (b : Bool) → ◌≡◌ {A = ℕ} (cond b 24 0) 24 → b ≡ true
        holds true e = refl
        holds false e = absurd (omega arith)

        there : (read m received).number ≡ 24 → Reaches24 m received × FalseRepeat m
        there e =
            let number = sym (ruled_map (λ (r : Read). r.number) unread (faults m received) (good m)) ∙ e in
            let w = ruled_past before itself 0 24 (not_among 24 before refl) number in
            (reaches w.0, found (holds (some_below (false_repeat (tells m)) (end m)) w.1))

        back : Reaches24 m received × FalseRepeat m → (read m received).number ≡ 24
        back h =
            let r = h.0 in
            rw (
              eq-eqb (length m) 88 r.whole,
              r.blocks,
              eq-eqb (type m) 0 r.kind,
              le-leb 1 (begin m) r.begins.from,
              le-leb (begin m) (end m) r.begins.upto,
              le-leb (end m) 48 r.last,
              some_none (new_past m) 48 (old_past r),
              le-ltb received (place m (end m)) (reached r),
              told_of h.1,
            )

pub refused_by_24 : RefusedBy24
refused_by_24 = by_24
