-- The cases of the reader with all places: refused by the header, by 23 or by 24, or the places of all descriptions.
use Rattle.laws.proofs.Base.{◌≡◌, refl, sym, ap, ◌∙◌, Bool, true, false, List, ℕ, ◌+◌, ◌≤◌, ◌<◌, arith, length, get_or, take, get_or-take, replicate}
use Rattle.laws.proofs.Base.{get_or-replicate, ext_get_or, eqb, ltb, eqb-true, lt-ltb, le-ltb, ltb-true, not-false}
use Rattle.sizes.specs.Paper.{whole_blocks}
use Rattle.laws.specs.Ruled.{ruled}
use Rattle.laws.specs.Upto.{some_below, count, each}
use Rattle.sizes.proofs.Received.{whole_bounds}
use Rattle.laws.proofs.Outcome.{Outcome, refuses, passes, outcome, ruled_append}
use Rattle.laws.proofs.Upto.{some_agree, each_length, each_at}
use Rattle.refusals.specs.Number.{number_of}
use Rattle.refusals.proofs.Inverse.{number_of_positive}
use Rattle.refusals.specs.declared.Refusal.{Refusal}
use Rattle.schedule.specs.Paper.{end, place, grouped, base, told, tells, is_first, in_bounds, head_faults, body_faults, faults, false_repeat, Read, unread, good}
use Rattle.schedule_places.specs.Inner.{place_at, Placed, unplaced, whole, placed, Readable, over, Over, start, Finds, Firsts}
use Rattle.schedule.specs.Inner.{head_read, told_by}
use Rattle.schedule.proofs.Answers.{head_some}
use Rattle.schedule.proofs.Header.{within}
use Rattle.schedule.proofs.News.{grouped_flip}
use Rattle.schedule.proofs.Order.{groups_whole}
use Rattle.schedule.proofs.Places.{place_mono}
use Rattle.schedule.proofs.Repeats.{false_repeat_agree}

module _ (m : List ℕ) (received : ℕ) where
  -- a header that was read
  pub record Headed (b e : ℕ) : Type 0 where
    pub long : length m ≡ 88
    pub room : 22 ≤ received
    pub few : received ≤ 88
    pub ends : e ≡ end m
    pub last : e ≤ 48
    pub reads : head_read m received ≡ good m
    pub places : placed m received ≡ ruled unplaced (body_faults m received) (whole m)

  pub head_read_lem : (b e : ℕ) → ◌≡◌ {A = Read} (record { number = 0; begin = b; end = e }) (head_read m received) → Headed b e
  unfolding head_read placed
  head_read_lem b e q = go (outcome (head_faults m received))
    where
      go : Outcome (head_faults m received) → Headed b e
      go (refuses n a h) = absurd (head_some m received n a (sym (ap (λ (r : Read). r.number) (q ∙ h Read unread (good m)))))
      go (passes h f) =
          let reads = f Read unread (good m) in
          let ends : e ≡ end m = ap (λ (r : Read). r.end) (q ∙ reads) in
          let sent = whole_bounds received (not-false (whole_blocks received) h.1.0) in
          record {
            long = eqb-true (length m) 88 (not-false (eqb (length m) 88) h.0);
            room = sent.0;
            few = sent.1;
            ends = ends;
            last = rw ends (within m (not-false (in_bounds m) h.1.1.1.0)).2;
            reads = reads;
            places =
                ruled_append unplaced (head_faults m received) (body_faults m received) (whole m)
                ∙ f Placed unplaced (ruled unplaced (body_faults m received) (whole m));
          }

  pub head_refused : (r : Refusal) → unread (number_of r) ≡ head_read m received → unplaced (number_of r) ≡ placed m received
  unfolding head_read placed
  head_refused r q = go (outcome (head_faults m received))
    where
      go : Outcome (head_faults m received) → unplaced (number_of r) ≡ ruled unplaced (faults m received) (whole m)
      go (refuses n a h) =
          ap unplaced (ap (λ (x : Read). x.number) (q ∙ h Read unread (good m)))
          ∙ sym (ruled_append unplaced (head_faults m received) (body_faults m received) (whole m)
          ∙ h Placed unplaced (ruled unplaced (body_faults m received) (whole m)))
      go (passes h f) =
          absurd (number_of_positive r (ap (λ (x : Read). x.number) (q ∙ f Read unread (good m))))

  module _ (b e : ℕ) (h : Headed b e) where
    pub readable : Readable m received e
    readable = record { whole = h.long; few = h.few; ends = h.ends; last = h.last }

    pub placed_short : received < place m (end m) → unplaced 23 ≡ placed m received
    placed_short l = sym (h.places ∙ rw (lt-ltb received (place m (end m)) l))

    -- 23 where the descriptions of the new slots pass the received octets already
    pub placed_short_new : received < place m (base m true + count (grouped m true) (end m)) → unplaced 23 ≡ placed m received
    placed_short_new l =
        placed_short (omega (arith, place_mono m (base m true + count (grouped m true) (end m)) (end m) (omega (arith, groups_whole m))))

    pub placed_short_rest : received < place m (base m false + count (grouped m false) (end m)) → unplaced 23 ≡ placed m received
    placed_short_rest l = placed_short (rw (groups_whole m) at l)

    module _ (t s : List ℕ) (f g : List Bool) (n k : ℕ)
        (news : Finds m true (end m) (replicate 48 0) (replicate 48 false) t f n) (others : Finds m false (end m) t f s g k) (inside : k ≤ received) where
      -- what both groups together have of a slot up to End
      both_groups : {A : Type 0} (v : ℕ → A) (d : A) (x y z : List A) → Over v d m true (end m) x y
          → Over v d m false (end m) y z → (i : ℕ) → i < 48 → i < end m → get_or z i d ≡ v i
      both_groups v d x y z p q i h l = q i h ∙ go (grouped m true i) refl
        where
          go : (b : Bool) → grouped m true i ≡ b → over v d m false (end m) y i ≡ v i
          go true e = rw (grouped_flip m i, lt-ltb i (end m) l, e) (p i h ∙ rw (lt-ltb i (end m) l, e))
          go false e = rw (grouped_flip m i, lt-ltb i (end m) l, e)

      there : (i : ℕ) → i < end m → get_or s i 0 ≡ start m i
      there i l = both_groups (start m) 0 (replicate 48 0) t s news.starts others.starts i (omega (arith, h.last, h.ends)) l

      -- both groups together place every slot
      all_placed : (i : ℕ) → i < 48 → get_or s i 0 ≡ place_at m i
      all_placed i l = go (ltb i (end m)) refl
        where
          go : (b : Bool) → ltb i (end m) ≡ b → get_or s i 0 ≡ place_at m i
          go true e = there i (ltb-true i (end m) e) ∙ rw e
          go false e = others.starts i l ∙ rw e (news.starts i l ∙ rw e (get_or-replicate 48 i 0 0 l))

      pub all_firsts : Firsts m (take e s) g e
      unfolding tells
      all_firsts i l =
          let low : i < end m = omega (arith, h.ends) in
          both_groups (λ (j : ℕ). is_first (tells m j)) false (replicate 48 false) f g news.firsts others.firsts i (omega (arith, h.last)) low
          ∙ ap (λ (a : ℕ). is_first (told m a)) (sym (get_or-take e s i 0 l ∙ there i low))

      reached : place m (end m) ≤ received
      reached = let q : k ≡ place m (end m) = others.reached ∙ ap (place m) (groups_whole m) in omega arith

      agrees : some_below (false_repeat (told_by m (take e s))) e ≡ some_below (false_repeat (tells m)) (end m)
      unfolding tells
      agrees =
          rw h.ends
          (some_agree (false_repeat (told_by m (take (end m) s))) (false_repeat (tells m)) (end m)
          (λ i l. false_repeat_agree (told_by m (take (end m) s)) (tells m) (end m) i (λ j w. ap (told m) (get_or-take (end m) s j 0 w ∙ there j w)) l))

      pub placed_false : some_below (false_repeat (told_by m (take e s))) e ≡ true → unplaced 24 ≡ placed m received
      placed_false w = sym (h.places ∙ rw (le-ltb received (place m (end m)) reached, sym agrees ∙ w))

      pub placed_good : (r : Read) → r ≡ head_read m received → length s ≡ 48 → some_below (false_repeat (told_by m (take e s))) e ≡ false
          → ◌≡◌ {A = Placed} (record { read = r; places = s }) (placed m received)
      placed_good r q size w =
          let good_end : placed m received ≡ whole m = h.places ∙ rw (le-ltb received (place m (end m)) reached, sym agrees ∙ w) in
          let same : s ≡ each (place_at m) 48 = ext_get_or 0 s (each (place_at m) 48) (size ∙ sym (each_length (place_at m) 48)) alike in
          (λ i. record { read = (q ∙ h.reads) i; places = same i }) ∙ sym good_end
        where
          alike : (i : ℕ) → i < length s → get_or s i 0 ≡ get_or (each (place_at m) 48) i 0
          alike i l =
              let low : i < 48 = omega arith in
              all_placed i low ∙ sym (each_at (place_at m) 48 i 0 low)
