-- Messages that are read alike are read alike with all their places.
use Rattle.laws.proofs.Base.{◌≡◌, refl, sym, ap, ◌∙◌, Bool, true, false, cond, List, ℕ, ◌<◌, replicate, eqb, eqb-true, ltb, ne_eqb}
use Rattle.laws.specs.Upto.{each}
use Rattle.schedule.specs.Paper.{begin, end, Read, unread, good, read}
use Rattle.schedule.proofs.Answers.{Answered, refused, sound, answered, read_sound}
use Rattle.schedule_places.specs.Inner.{Placed, place_at, unplaced, whole, placed}
use Rattle.schedule_places.proofs.Known.{read_placed}
use Rattle.schedule_order.specs.Claims.{starting, Alike, read_with_begin, AlikeButBegin}
use Rattle.schedule_order.proofs.Alike.{below_only}

module _ (m : List ℕ) (received : ℕ) where
  -- the places are those of a message that is read, and else none
  places_by : (placed m received).places ≡ cond (eqb (read m received).number 0) (each (place_at m) 48) (replicate 48 0)
  unfolding placed read
  places_by = go (answered m received)
    where
      go : Answered m received → (placed m received).places ≡ cond (eqb (read m received).number 0) (each (place_at m) 48) (replicate 48 0)
      go (refused x s h) =
          ap (λ (l : Placed). l.places) (h Placed unplaced (whole m))
          ∙ sym (ap (λ (r : Read). cond (eqb r.number 0) (each (place_at m) 48) (replicate 48 0)) (h Read unread (good m)) ∙ rw (ne_eqb x 0 s))
      go (sound w) =
          ap (λ (l : Placed). l.places) (w.answers Placed unplaced (whole m))
          ∙ sym (ap (λ (r : Read). cond (eqb r.number 0) (each (place_at m) 48) (replicate 48 0)) (w.answers Read unread (good m)))

  -- End as it is read
  end_read : (read m received).number ≡ 0 → (read m received).end ≡ end m
  unfolding read
  end_read z = ap (λ (r : Read). r.end) ((read_sound m received z).answers Read unread (good m))

module _ (m n : List ℕ) (received : ℕ) (number : (read m received).number ≡ (read n received).number) (last : (read m received).end ≡ (read n received).end)
    (starts : (i : ℕ) → i < end m → starting m i ≡ starting n i) where
  place_at_same : end m ≡ end n → (i : ℕ) → place_at m i ≡ place_at n i
  place_at_same e i = below_only i (end m) (starting m i) (starting n i) 0 (starts i) ∙ ap (λ (k : ℕ). cond (ltb i k) (starting n i) 0) e

  places_same : (placed m received).places ≡ (placed n received).places
  places_same = places_by m received ∙ go (eqb (read m received).number 0) refl ∙ sym (places_by n received)
    where
      go : (b : Bool) → eqb (read m received).number 0 ≡ b
          → cond (eqb (read m received).number 0) (each (place_at m) 48) (replicate 48 0) ≡ cond (eqb (read n received).number 0) (each (place_at n) 48) (replicate 48 0)
      go true q =
          let z = eqb-true (read m received).number 0 q in
          let e : end m ≡ end n = sym (end_read m received z) ∙ last ∙ end_read n received (sym number ∙ z) in
          rw (← number, q) (λ p. each (λ (i : ℕ). place_at_same e i p) 48)
      go false q = rw (← number, q)

pub placed_alike : (m n : List ℕ) (received : ℕ) → Alike m n received → placed m received ≡ placed n received
placed_alike m n received a =
    λ p. record {
      read = (read_placed m received ∙ a.reads ∙ sym (read_placed n received)) p;
      places = places_same m n received (ap (λ (r : Read). r.number) a.reads) (ap (λ (r : Read). r.end) a.reads) a.places p;
    }

-- another Begin leaves the number and End
read_with_begin_number : (b : ℕ) (r : Read) → (read_with_begin b r).number ≡ r.number
read_with_begin_number b r = go (eqb r.number 0) refl
  where
    go : (z : Bool) → eqb r.number 0 ≡ z → (cond z (record { number = 0; begin = b; end = r.end }) r).number ≡ r.number
    go true q = sym (eqb-true r.number 0 q)
    go false q = refl

read_with_begin_end : (b : ℕ) (r : Read) → (read_with_begin b r).end ≡ r.end
read_with_begin_end b r = go (eqb r.number 0)
  where
    go : (z : Bool) → (cond z (record { number = 0; begin = b; end = r.end }) r).end ≡ r.end
    go true = refl
    go false = refl

pub placed_but_begin : (m n : List ℕ) (received : ℕ) → AlikeButBegin m n received
    → placed n received ≡ record { read = read_with_begin (begin n) (placed m received).read; places = (placed m received).places }
placed_but_begin m n received a =
    let r = read m received in
    let number : r.number ≡ (read n received).number = sym (ap (λ (x : Read). x.number) a.reads ∙ read_with_begin_number (begin n) r) in
    let last : r.end ≡ (read n received).end = sym (ap (λ (x : Read). x.end) a.reads ∙ read_with_begin_end (begin n) r) in
    λ p. record {
      read = (read_placed n received ∙ a.reads ∙ ap (read_with_begin (begin n)) (sym (read_placed m received))) p;
      places = sym (places_same m n received number last a.places) p;
    }
