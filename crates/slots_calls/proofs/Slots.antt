-- Laws of the numbers of all slots, and of what they leave a C caller with.
use Rattle.laws.proofs.Base.{◌≡◌, refl, sym, ap, ◌∙◌, Bool, true, false, cond, List, ℕ, ◌+◌, ◌*◌, ◌<◌, arith, ltb, length, get_or, ltb-true, eq-eqb, ne_eqb}
use Rattle.laws.specs.Ruled.{ruled}
use Rattle.laws.specs.Upto.{each}
use Rattle.laws.proofs.Outcome.{Outcome, refuses, passes, outcome}
use Rattle.refusals.specs.declared.Refusal.{Refusal}
use Rattle.refusals.specs.Number.{number_of}
use Rattle.refusals.proofs.Inverse.{number_of_positive}
use Rattle.std.specs.Prelude.{Ok, Err}
use Rattle.schedule_places.specs.declared.Placed.{Placed as PlacedCode}
use Rattle.schedule.specs.Paper.{new, tells, faults, Read as Reads, unread, good, read}
use Rattle.schedule_places.specs.Inner.{Placed, placed}
use Rattle.schedule.specs.Coded.{read_of}
use Rattle.schedule_places.specs.Coded.{placed_of}
use Rattle.schedule.specs.Inner.{told_by}
use Rattle.schedule.proofs.Answers.{faults_some}
use Rattle.schedule_places.proofs.Known.{Good, read_placed, given_good, told_at}
use Rattle.calls.specs.Paper.{CallLeft}
use Rattle.calls.specs.Claims.{IsLeft}
use Rattle.schedule_calls.specs.Paper.{packed_read}
use Rattle.schedule_calls.proofs.Given.{begin_end_small, reads_schedule}
use Rattle.slots_calls.specs as defs
use defs.Paper.{packed_shown, packed_slot, told_all, slots_call}
use defs.Inner.{packed_by, Shows}

-- a slot's number at its place is that of the slot
pub packed_slot_lem : (m p : List ℕ) (e : ℕ) → Shows m p e → (i : ℕ) → packed_by m e i (get_or p i 0) ≡ packed_slot m i
packed_slot_lem m p e s i = rw (← s.ends) (go (ltb i e) refl)
  where
    go : (b : Bool) → ltb i e ≡ b → cond (ltb i e) (packed_shown (record { new = new m i; told = told_by m p i })) 0 ≡ cond (ltb i e) (packed_shown (record { new = new m i; told = tells m i })) 0
    go true q = rw (s.shows i (ltb-true i e q))
    go false q = rw q

-- what the call leaves
module _ (m : List ℕ) (received : ℕ) where
  -- either a refusal, of the reader too, or what is told of a message that is read
  data Answers (o : List ℕ) (l : CallLeft) (r : Reads) : Type 0 where
    refused : (n : ℕ) → (n ≡ 0 → ⊥) → l ≡ record { returned = n; memory = o } → r ≡ unread n → Answers o l r
    told : l ≡ told_all m → r ≡ good m → Answers o l r

  module _ (o : List ℕ) where
    abbrev refusal : ℕ → CallLeft
    refusal n = record { returned = n; memory = o }

    pub slots_length : (length o ≡ 48 → ⊥) → slots_call m received o ≡ refusal 15
    unfolding slots_call
    slots_length e = rw (ne_eqb (length o) 48 e)

    answers : length o ≡ 48 → Answers o (slots_call m received o) (read m received)
    unfolding slots_call read
    answers room = rw (eq-eqb (length o) 48 room) (go (outcome (faults m received)))
      where
        go : Outcome (faults m received) → Answers o (ruled refusal (faults m received) (told_all m)) (ruled unread (faults m received) (good m))
        go (refuses k w h) =
            refused k (λ z. faults_some m received k w z) (h CallLeft refusal (told_all m)) (h Reads unread (good m))
        go (passes w h) = told (h CallLeft refusal (told_all m)) (h Reads unread (good m))

    -- a message that is read
    pub slots_told : length o ≡ 48 → (read m received).number ≡ 0 → (slots_call m received o ≡ told_all m) × (read m received ≡ good m)
    slots_told room e = go (answers room) e
      where
        go : {l : CallLeft} {r : Reads} → Answers o l r → r.number ≡ 0 → (l ≡ told_all m) × (r ≡ good m)
        go (refused n z a b) e = absurd (z (sym (ap (λ (x : Reads). x.number) b) ∙ e))
        go (told a b) e = (a, b)

    -- the call returns what the reader does
    pub slots_returned : length o ≡ 48 → (slots_call m received o).returned ≡ packed_read (read m received)
    slots_returned room = go (answers room)
      where
        go : {l : CallLeft} {r : Reads} → Answers o l r → l.returned ≡ packed_read r
        go (refused n z a b) = omega (arith, ap (λ (l : CallLeft). l.returned) a, ap packed_read b)
        go (told a b) = ap (λ (l : CallLeft). l.returned) a ∙ sym (ap packed_read b)

  pub refuses_slots : (o : List ℕ) → length o ≡ 48 → (f : Refusal) → placed_of (Err f) ≡ placed m received
      → IsLeft (number_of f) o (slots_call m received o)
  refuses_slots o room f q = go (answers o room) (sym (ap (λ (l : Placed). l.read.number) q ∙ ap (λ (x : Reads). x.number) (read_placed m received)))
    where
      go : {l : CallLeft} {x : Reads} → Answers o l x → x.number ≡ number_of f → IsLeft (number_of f) o l
      go (refused k z p b) e = ap (refusal o) (sym e ∙ ap (λ (x : Reads). x.number) b) ∙ sym p
      go (told p b) e = absurd (number_of_positive f (sym e ∙ ap (λ (x : Reads). x.number) b))

  module _ (t : PlacedCode) (q : placed_of (Ok t) ≡ placed m received) where
    same : read_of (Ok t.span) ≡ read m received
    same = ap (λ (l : Placed). l.read) q ∙ read_placed m received

    found : Good m received (placed_of (Ok t)) q t.span.end
    found = given_good m received (placed_of (Ok t)) q t.span.begin t.span.end refl

    pub found_shows : Shows m t.places t.span.end
    found_shows = record { ends = found.ends; shows = told_at m received (placed_of (Ok t)) q t.span.end found }

    pub found_small : (t.span.begin < 64) × (t.span.end < 64)
    found_small = begin_end_small m received t.span same

    pub tells_slots : (o : List ℕ) → length o ≡ 48 → (x : List ℕ) → x ≡ each (packed_slot m) 48
        → IsLeft (0x100 * t.span.begin + 0x10000 * t.span.end) x (slots_call m received o)
    tells_slots o room x s =
        let l = slots_told o room (sym (ap (λ (r : Reads). r.number) same)) in
        let packed = reads_schedule _ t.span same ∙ ap packed_read l.1 in
        (λ i. record { returned = packed i; memory = s i }) ∙ sym l.0
