-- What the schedule room's answers pack fits its place.
use Rattle.laws.proofs.Base.{◌≡◌, refl, ap, Bool, true, false, List, ℕ, ◌+◌, ◌*◌, ◌<◌, arith, ltb, ltb-true}
use Rattle.laws.proofs.Ruled.{Ruling, refuses, passes, ruling}
use Rattle.std.specs.Prelude.{Some, Ok}
use Rattle.schedule.specs.declared.Span.{Span}
use Rattle.schedule_given.specs.declared.Numbered.{Numbered}
use Rattle.schedule.specs.Paper.{end, faults, Read, unread, good, read, GivenSlot, next, no_more, refusal, given_at, given}
use Rattle.schedule.specs.Coded.{read_of}
use Rattle.schedule_given.specs.Coded.{given_of}
use Rattle.schedule_order.proofs.Ranks.{order_below}
use Rattle.schedule_calls.specs.Paper.{packed_read}

-- Begin and End have six bits
pub ends_small : (m : List ℕ) (received : ℕ) → ((read m received).begin < 64) × ((read m received).end < 64)
unfolding read
ends_small m received = go (ruling unread (faults m received) (good m))
  where
    go : {r : Read} → Ruling unread (faults m received) (good m) r → (r.begin < 64) × (r.end < 64)
    go (refuses n a e) = rw e (omega arith, omega arith)
    go (passes h e) = rw e (omega arith, omega arith)

-- the slot that is given; 0 for none
abbrev pub slot_number : GivenSlot → ℕ
slot_number (next i s) = i
slot_number no_more = 0
slot_number (refusal n) = 0

-- a slot that is given is not past End, which has six bits
pub slot_small : (m : List ℕ) (received k : ℕ) → slot_number (given m received k) < 64
unfolding given
slot_small m received k = go (ruling refusal (faults m received) (given_at m k))
  where
    at : (b : Bool) → ltb k (end m) ≡ b → slot_number (given_at m k) < 64
    at true e = rw e (omega (arith, order_below m k (ltb-true k (end m) e)))
    at false e = rw e (omega arith)

    go : {g : GivenSlot} → Ruling refusal (faults m received) (given_at m k) g → slot_number g < 64
    go (refuses n a e) = rw e (omega arith)
    go (passes h e) = rw e (at (ltb k (end m)) refl)

pub begin_end_small : (m : List ℕ) (received : ℕ) (s : Span) → read_of (Ok s) ≡ read m received → (s.begin < 64) × (s.end < 64)
begin_end_small m received s e =
    (omega (arith, (ends_small m received).0, ap (λ (r : Read). r.begin) e), omega (arith, (ends_small m received).1, ap (λ (r : Read). r.end) e))

pub reads_schedule : (r : Read) (s : Span) → read_of (Ok s) ≡ r → 0x100 * s.begin + 0x10000 * s.end ≡ packed_read r
reads_schedule r s e = omega (arith, ap packed_read e)

pub given_small : (m : List ℕ) (received place : ℕ) (x : Numbered) → given_of (Ok (Some x)) ≡ given m received place → x.number < 64
given_small m received place x e = omega (arith, slot_small m received place, ap slot_number e)
