-- What a schedule tells of a slot, by way of the places of its descriptions.
use Rattle.laws.proofs.Base.{◌≡◌, refl, sym, ap, ◌∙◌, Bool, true, false, ◌&&◌, ◌||◌, not, List, ℕ, suc, ◌+◌, ◌-◌, ◌≤◌, ◌<◌}
use Rattle.laws.proofs.Base.{arith, eqb, leb, eqb-true, eqb-false, leb-true, leb-false, ne_eqb, not-false}
use Rattle.laws.proofs.Ruled.{others, unrefused}
use Rattle.laws.proofs.Tests.{true_or_false, both, neither}
use Rattle.laws.proofs.Upto.{some_false}
use Rattle.refusals.specs.declared.Refusal.{Refusal}
use Rattle.refusals.specs.Number.{number_of}
use Rattle.refusals.proofs.Inverse.{number_of_positive}
use Rattle.schedule.specs.Paper.{Told, first, again, optional, advised, is_first, false_in, false_repeat, begin, end, in_bounds, faults, tells, Read, unread, good, read}
use Rattle.schedule_places.specs.Inner.{Placed, placed}
use Rattle.schedule.specs.Inner.{told_by}
use Rattle.schedule_places.proofs.Known.{read_placed, given_good, told_at}
use Rattle.schedule.proofs.Repeats.{false_repeat_agree}
use Rattle.board_held.specs as defs
use defs.Paper.{tells_of, entry_for, entered_under}
use defs.Inner.{answers}
use defs.Coded.{lent_schedule}
use Rattle.board_held.proofs.Cases.{entered_told}

-- what is known of a message that is read
pub record IsRead (m : List ℕ) (received : ℕ) : Type 0 where
  pub ends : (read m received).end ≡ end m
  pub last : end m ≤ 48
  pub repeats : (i : ℕ) → i < end m → false_repeat (tells m) i ≡ false

pub is_read : (m : List ℕ) (received : ℕ) → (read m received).number ≡ 0 → IsRead m received
unfolding read
is_read m received e =
    let w = unrefused (λ (r : Read). r.number) unread (λ n. refl) (faults m received) (good m) 0 (others 0 (faults m received) refl) e in
    let h = w.0.1.1.1 in
    let range = both (leb 1 (begin m)) (leb (begin m) (end m) && leb (end m) 48) (not-false (in_bounds m) h.0) in
    record {
      ends = ap (λ (r : Read). r.end) w.1;
      last = leb-true (end m) 48 (both (leb (begin m) (end m)) (leb (end m) 48) range.1).1;
      repeats = λ i l. some_false (false_repeat (tells m)) (end m) i h.1.1.1.0 l;
    }

pub refused_answers : (r : Refusal) (n : ℕ) → answers (unread (number_of r)) n ≡ false
refused_answers r n = rw (ne_eqb (number_of r) 0 (number_of_positive r))

module _ (m : List ℕ) (received n : ℕ) where
  tells_answers : tells_of (lent_schedule true m received) n ≡ answers (read m received) n
  unfolding tells_of
  tells_answers =
      true_or_false (eqb (read m received).number 0) (λ e. rw (is_read m received (eqb-true _ 0 e)).ends) (λ e. rw e)

  -- what is known of a slot that a message tells of
  pub record Telling (p : List ℕ) : Type 0 where
    pub some : 1 ≤ n
    pub low : n ≤ 48
    pub below : n - 1 < end m
    pub shows : (j : ℕ) → j < end m → told_by m p j ≡ tells m j
    pub repeats : false_repeat (told_by m p) (n - 1) ≡ false

  module _ (t : Placed) (q : t ≡ placed m received) where
    same : t.read ≡ read m received
    same = ap (λ (l : Placed). l.read) q ∙ read_placed m received

    -- the places tell whether the schedule tells of the slot
    pub tells_by : (known b : Bool) → known ≡ true → answers (t.read) n ≡ b → tells_of (lent_schedule known m received) n ≡ b
    tells_by known b k e = rw k (tells_answers ∙ rw same at e)

    pub telling : answers (t.read) n ≡ true → Telling t.places
    telling e =
        let r : Read = t.read in
        let parts = both (eqb r.number 0) (leb 1 n && leb n r.end) e in
        let range = both (leb 1 n) (leb n r.end) parts.1 in
        let zero = eqb-true r.number 0 parts.0 in
        let some = leb-true 1 n range.0 in
        let reach = leb-true n r.end range.1 in
        let g = given_good m received t q r.begin r.end (λ i. record { number = zero i; begin = r.begin; end = r.end }) in
        let known = is_read m received (sym (ap (λ (y : Read). y.number) same) ∙ zero) in
        let below : n - 1 < end m = omega (arith, g.ends) in
        let shows : (j : ℕ) → j < end m → told_by m t.places j ≡ tells m j = λ j l. told_at m received t q r.end g j (omega (arith, g.ends)) in
        record {
          some = some;
          low = omega (arith, g.last);
          below = below;
          shows = shows;
          repeats = false_repeat_agree (told_by m t.places) (tells m) (end m) (n - 1) shows below ∙ known.repeats (n - 1) below;
        }

-- a true repeat names a lower slot
pub record Named (i n : ℕ) : Type 0 where
  pub some : 1 ≤ n
  pub low : n ≤ i

pub named : (t : ℕ → Told) (i n : ℕ) → t i ≡ again n → false_repeat t i ≡ false → Named i n
named t i n e f =
    let parts = neither (eqb n 0) (leb (suc i) n || not (is_first (t (n - 1)))) (sym (ap (false_in t i) e) ∙ f) in
    let rest = neither (leb (suc i) n) (not (is_first (t (n - 1)))) parts.1 in
    let positive = eqb-false n 0 parts.0 in
    let below = leb-false (suc i) n rest.0 in
    record { some = omega arith; low = omega arith }

-- the slot that a page is entered under is that where it is got, or one below it
pub entry_named : (t : ℕ → Told) (i : ℕ) → false_repeat t i ≡ false → Named (i + 1) (entry_for (i + 1) (t i))
entry_named t i f = go (t i) refl
  where
    own : Named (i + 1) (i + 1)
    own = record { some = omega arith; low = omega arith }

    go : (d : Told) → t i ≡ d → Named (i + 1) (entry_for (i + 1) d)
    go (first x) q = own
    go (again n) q = let l = named t i n q f in record { some = l.some; low = omega (arith, l.low) }
    go optional q = own
    go advised q = own

-- the entry by way of the places, where there is a schedule
pub entered_slot : (known : Bool) (m : List ℕ) (received n : ℕ) (t : Placed) (q : t ≡ placed m received) → known ≡ true
    → answers (t.read) n ≡ true → entry_for n (told_by m t.places (n - 1)) ≡ entered_under (lent_schedule known m received) n
entered_slot known m received n t q k e =
    let g = telling m received n t q e in
    ap (entry_for n) (g.shows (n - 1) g.below) ∙ sym (entered_told (lent_schedule known m received) n (tells_by m received n t q known true k e))
