-- A reserved description that is made 40 changes nothing that is read.
use Rattle.laws.proofs.Base.{◌≡◌, refl, ap, ◌∙◌, Bool, true, false, List, ℕ, zero, suc, ◌+◌, ◌/◌, ◌%◌, ◌≤◌, ◌<◌, arith, length, length-set, list_get_d_eq_default}
use Rattle.laws.proofs.Base.{get_or-set_same, get_or-set_other, eqb, leb, ltb, eqb-true, eqb-false, ltb-true, ltb-false, leb-true, lt-leb, le-leb, ne_eqb}
use Rattle.laws.proofs.Tests.{both}
use Rattle.schedule.specs.Paper.{octet_at, begin, end, width, reserved, told, place}
use Rattle.schedule.proofs.Places.{place_mono, place_after}
use Rattle.schedule_order.specs.Claims.{optional_octet, made40, Alike, NeverSlides}
use Rattle.schedule_order.proofs.Alike.{place_least, Matching, news_same, within_same, alike}

module _ (m : List ℕ) (k : ℕ) (h : reserved (octet_at m (place m k)) ≡ true) where
  -- the place of the octet that is made 40, and the message with it made so
  abbrev spot : ℕ
  spot = place m k

  abbrev m' : List ℕ
  m' = made40 m k

  bounds : (66 ≤ octet_at m spot) × (octet_at m spot ≤ 127)
  bounds =
      let w = both (leb 66 (octet_at m spot)) (leb (octet_at m spot) 127) h in
      (leb-true 66 (octet_at m spot) w.0, leb-true (octet_at m spot) 127 w.1)

  inside : spot < length m
  inside = go (ltb spot (length m)) refl
    where
      go : (b : Bool) → ltb spot (length m) ≡ b → spot < length m
      go true e = ltb-true spot (length m) e
      go false e = absurd (omega (arith, bounds, list_get_d_eq_default m 0 (ltb-false spot (length m) e)))

  other : (i : ℕ) → (i ≡ spot → ⊥) → octet_at m' i ≡ octet_at m i
  other i e = get_or-set_other m spot i optional_octet 0 e

  here : octet_at m' spot ≡ optional_octet
  here = get_or-set_same m spot optional_octet 0 inside

  low : octet_at m spot < 128
  low = omega (arith, bounds)

  width_same : (i : ℕ) → width (octet_at m' i) ≡ width (octet_at m i)
  width_same i = go (eqb i spot) refl
    where
      go : (b : Bool) → eqb i spot ≡ b → width (octet_at m' i) ≡ width (octet_at m i)
      go true e = rw (eqb-true i spot e, here, lt-leb 128 (octet_at m spot) low)
      go false e = rw (other i (eqb-false i spot e))

  place_same : (j : ℕ) → place m' j ≡ place m j
  unfolding place
  place_same zero = refl
  place_same (suc j) = rw (place_same j, width_same (place m j))

  -- the second octet of a description is never the one that is made 40
  second : (j : ℕ) → 128 ≤ octet_at m (place m j) → place m j + 1 ≡ spot → ⊥
  second j w e = go (ltb j k) refl
    where
      go : (b : Bool) → ltb j k ≡ b → ⊥
      go true q =
          let up = place_after m j k (ltb-true j k q) in
          omega (arith, rw (le-leb 128 (octet_at m (place m j)) w) at up)
      go false q = omega (arith, place_mono m k j (ltb-false j k q))

  told_same : (j : ℕ) → told m' (place m j) ≡ told m (place m j)
  told_same j = go (eqb (place m j) spot) (leb 128 (octet_at m (place m j))) refl refl
    where
      go : (a b : Bool) → eqb (place m j) spot ≡ a → leb 128 (octet_at m (place m j)) ≡ b → told m' (place m j) ≡ told m (place m j)
      go true b e q =
          let high : 63 < octet_at m spot = omega (arith, bounds) in
          let free : octet_at m spot ≡ 65 → ⊥ = omega (arith, bounds) in
          rw (eqb-true (place m j) spot e, here, lt-leb 128 (octet_at m spot) low, lt-leb (octet_at m spot) 63 high, ne_eqb (octet_at m spot) 65 free)
      go false true e q =
          rw (other (place m j) (eqb-false (place m j) spot e), other (place m j + 1) (second j (leb-true 128 (octet_at m (place m j)) q)))
      go false false e q = rw (other (place m j) (eqb-false (place m j) spot e), q)

  -- the octets before the descriptions stay
  head_same : (i : ℕ) → i < 8 → octet_at m' i ≡ octet_at m i
  head_same i l = let least = place_least m k in other i (omega arith)

  begin_same : begin m' ≡ begin m
  begin_same = ap (λ (x : ℕ). x % 64) (head_same 0 (omega arith))

  end_same : end m' ≡ end m
  end_same = ap (λ (x : ℕ). x % 64) (head_same 1 (omega arith))

  matching : Matching m' m
  matching =
      record {
        long = length-set m spot optional_octet;
        kind = ap (λ (x : ℕ). x / 64) (head_same 0 (omega arith));
        rule = within_same m' m begin_same end_same;
        last = end_same;
        news = news_same m' m (λ i _ l. head_same i l);
        places = λ j l. place_same j;
        describes = λ j l. ap (told m') (place_same j) ∙ told_same j;
      }

  slides : (received : ℕ) → Alike m' m received
  slides received = alike m' m matching received begin_same

pub never_slides : NeverSlides
never_slides = slides
