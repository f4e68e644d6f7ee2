-- What is known of a message by the answer of the reader with all places.
use Rattle.laws.proofs.Base.{◌≡◌, sym, ap, ◌∙◌, List, ℕ, ◌≤◌, ◌<◌, arith, length, get_or, lt-ltb}
use Rattle.laws.specs.Upto.{each}
use Rattle.laws.proofs.Ruled.{ruled_map}
use Rattle.laws.proofs.Upto.{each_at}
use Rattle.schedule.specs.Paper.{end, told, tells, faults, Read, read}
use Rattle.schedule.specs.Inner.{told_by}
use Rattle.schedule.proofs.Answers.{read_sound}
use Rattle.schedule_places.specs.Inner.{Placed, place_at, unplaced, whole, placed}

module _ (m : List ℕ) (received : ℕ) where
  -- the reader's answer is that of the reader with all places
  pub read_placed : (placed m received).read ≡ read m received
  unfolding placed read
  read_placed = ruled_map (λ (l : Placed). l.read) unplaced (faults m received) (whole m)

  module _ (x : Placed) (q : x ≡ placed m received) where
    -- a message that is read
    pub record Good (e : ℕ) : Type 0 where
      pub long : length m ≡ 88
      pub ends : e ≡ end m
      pub last : e ≤ 48
      pub places : x.places ≡ each (place_at m) 48
      pub reads : (read m received).number ≡ 0

    pub given_good : (b e : ℕ) → x.read ≡ record { number = 0; begin = b; end = e } → Good e
    unfolding placed
    given_good b e p =
        let answer : read m received ≡ record { number = 0; begin = b; end = e } = sym (ap (λ (l : Placed). l.read) q ∙ read_placed) ∙ p in
        let w = read_sound m received (ap (λ (r : Read). r.number) answer) in
        let all = q ∙ w.answers Placed unplaced (whole m) in
        let ends : e ≡ end m = sym (ap (λ (r : Read). r.end) p) ∙ ap (λ (l : Placed). l.read.end) all in
        record {
          long = w.long;
          ends = ends;
          last = omega (arith, w.last);
          places = ap (λ (l : Placed). l.places) all;
          reads = ap (λ (r : Read). r.number) answer;
        }

    -- the description at a slot's place is that of the slot
    pub told_at : (e : ℕ) → Good e → (i : ℕ) → i < e → told_by m x.places i ≡ tells m i
    unfolding tells
    told_at e g i w =
        let near : i < end m = omega (arith, g.ends) in
        ap (told m)
        (ap (λ (s : List ℕ). get_or s i 0) g.places ∙ each_at (place_at m) 48 i 0 (omega (arith, g.last)) ∙ rw (lt-ltb i (end m) near))
