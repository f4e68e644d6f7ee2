-- What a group's descriptions are found to be, one after the other.
use Rattle.laws.proofs.Base.{◌≡◌, refl, sym, ap, ◌∙◌, Bool, true, false, and-false, List, ℕ, ◌+◌, ◌≤◌, ◌<◌, add-zero, arith, length}
use Rattle.laws.proofs.Base.{get_or, set, get_or-set_same, get_or-set_other, eqb, lt-ltb, le-ltb, eqb-true, eqb-false}
use Rattle.laws.specs.Upto.{count}
use Rattle.laws.proofs.Tests.{below_other}
use Rattle.laws.proofs.Upto.{count_none, count_yes, count_no, count_grows}
use Rattle.schedule.specs.Paper.{Told, octet_at, width, told, place, end, grouped, base, tells, is_first}
use Rattle.schedule_places.specs.Inner.{took, past, step, over, Over, start, Finds}
use Rattle.schedule.proofs.News.{grouped_is}
use Rattle.schedule.proofs.Places.{place_next, place_after}
use Rattle.schedule_places.proofs.Steps.{step_took, step_past}

module _ {A : Type 0} (f : ℕ → A) (d : A) (m : List ℕ) (b : Bool) (s : List A) where
  over_none : Over f d m b 0 s s
  over_none i h = rw (le-ltb i 0 (omega arith))

  module _ (j : ℕ) (t : List A) (o : Over f d m b j s t) where
    over_skip : grouped m b j ≡ false → Over f d m b (j + 1) s t
    over_skip e i h = o i h ∙ go (eqb i j) refl
      where
        go : (q : Bool) → eqb i j ≡ q → over f d m b j s i ≡ over f d m b (j + 1) s i
        go true q = rw (eqb-true i j q, e, and-false, and-false)
        go false q = rw (below_other i j (eqb-false i j q))

    over_take : grouped m b j ≡ true → (x : A) → x ≡ f j → j < length t → Over f d m b (j + 1) s (set t j x)
    over_take inside x e room i h = go (eqb i j) refl
      where
        go : (q : Bool) → eqb i j ≡ q → get_or (set t j x) i d ≡ over f d m b (j + 1) s i
        go true q =
            let same : i ≡ j = eqb-true i j q in
            rw (same, get_or-set_same t j x d room, lt-ltb j (j + 1) (omega arith), inside) e
        go false q =
            let other = eqb-false i j q in
            rw (get_or-set_other t j i x d other) (o i h ∙ rw (below_other i j other))

module _ (m : List ℕ) (b : Bool) (s : List ℕ) (f : List Bool) where
  pub finds_none : (at : ℕ) → at ≡ place m (base m b) → Finds m b 0 s f s f at
  finds_none at e =
      record {
        reached = e ∙ rw (count_none (grouped m b), add-zero);
        starts = over_none (start m) 0 m b s;
        firsts = over_none (λ (i : ℕ). is_first (tells m i)) false m b f;
      }

  module _ (j at : ℕ) (t : List ℕ) (g : List Bool) (k : Finds m b j s f t g at) where
    pub finds_skip : grouped m b j ≡ false → Finds m b (j + 1) s f t g at
    finds_skip e =
        record {
          reached = k.reached ∙ rw (count_no (grouped m b) j e);
          starts = over_skip (start m) 0 m b s j t k.starts e;
          firsts = over_skip (λ (i : ℕ). is_first (tells m i)) false m b f j g k.firsts e;
        }

    module _ (inside : grouped m b j ≡ true) where
      there : at ≡ start m j
      there = k.reached ∙ rw (grouped_is m j b inside)

      pub finds_take : (received n : ℕ) (d : Told) (x : Bool) → length t ≡ 48 → length g ≡ 48 → j < 48
          → took d n ≡ step m received at → x ≡ is_first d
          → Finds m b (j + 1) s f (set t j at) (set g j x) n × (n ≤ received)
      unfolding tells
      finds_take received n d x lt lg l e q =
          let w = step_took m received at d n e in
          let before = base m b + count (grouped m b) j in
          let more : base m b + count (grouped m b) (j + 1) ≡ before + 1 = rw (count_yes (grouped m b) j inside) (omega arith) in (
            record {
              reached = w.moves ∙ ap (λ (a : ℕ). a + width (octet_at m a)) k.reached ∙ sym (place_next m before) ∙ ap (place m) (sym more);
              starts = over_take (start m) 0 m b s j t k.starts inside at there (omega arith);
              firsts = over_take (λ (i : ℕ). is_first (tells m i)) false m b f j g k.firsts inside x (q ∙ ap is_first (w.tells ∙ ap (told m) there)) (omega arith);
            },
            w.inside,
          )

      pub finds_short : (received : ℕ) → j < end m → past ≡ step m received at
          → received < place m (base m b + count (grouped m b) (end m))
      finds_short received l e =
          let before = base m b + count (grouped m b) j in
          let all = base m b + count (grouped m b) (end m) in
          let more : before < all = omega (arith, count_grows (grouped m b) (end m) j l inside) in
          let up : at + width (octet_at m at) ≤ place m all = rw k.reached (place_after m before all more) in
          omega (arith, step_past m received at e)
