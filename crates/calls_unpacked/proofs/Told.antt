-- What `cb_slots` and `cb_read_header` pack is taken out again as the header's macros do it.
use Rattle.laws.proofs.Base.{◌≡◌, refl, ap, ◌∙◌, Bool, true, false, List, ℕ, ◌<◌, arith, eqb, length, get_or, eqb-true, eqb-false, lt-ltb, le-ltb}
use Rattle.laws.specs.Radix.{Below}
use Rattle.laws.proofs.Upto.{each_at}
use Rattle.calls.specs.Paper.{CallLeft}
use Rattle.schedule.specs.Paper.{end, place, rank, tells, read}
use Rattle.slots_calls.specs.Paper.{packed_slot, slots_call}
use Rattle.slots_calls.proofs.Packed.{code_small}
use Rattle.slots_calls.proofs.Slots.{slots_length, slots_told, slots_returned}
use Rattle.page.specs.Paper.{header}
use Rattle.page_calls.specs.Paper.{Headed, headed}
use Rattle.page_calls.proofs.Headed.{headed_length, headed_read}
use Rattle.calls_unpacked.specs.Claims.{UnpackedSlotsLength, UnpackedSlotsReturned, UnpackedSlots, UnpackedSlotsPast, UnpackedReadHeader}
use Rattle.calls_unpacked.proofs.Unpacked.{unpacked_read_schedule}

pub unpacked_slots_length : UnpackedSlotsLength
unpacked_slots_length m n o e = rw (slots_length m n o e) (refl, refl)

pub unpacked_slots_returned : UnpackedSlotsReturned
unpacked_slots_returned m n o room = rw (slots_returned m n o room) (unpacked_read_schedule m n)

at_slot : (m : List ℕ) (n : ℕ) (o : List ℕ) → length o ≡ 48 → (read m n).number ≡ 0 → (i : ℕ) → i < 48
    → get_or (slots_call m n o).memory i 0 ≡ packed_slot m i
at_slot m n o room reads i few =
    ap (λ (l : CallLeft). get_or l.memory i 0) (slots_told m n o room reads).0 ∙ each_at (packed_slot m) 48 i 0 few

pub unpacked_slots : UnpackedSlots
unfolding tells
unpacked_slots m n o room reads i few octets l =
    let code = code_small m octets (place m (rank m i)) in
    rw (at_slot m n o room reads i few, lt-ltb i (end m) l) (omega arith, omega arith)

pub unpacked_slots_past : UnpackedSlotsPast
unpacked_slots_past m n o room reads i few l = rw (at_slot m n o room reads i few, le-ltb i (end m) l)

-- the numbers of a page of octets fit their places
record Fitting (h : Headed) : Type 0 where
  number : h.number < 256
  scheme : h.heading.scheme < 256
  serial : h.heading.serial < 0x10000
  id : h.heading.id < 0x10000

headed_fits : (p : List ℕ) → Below 256 p → Fitting (headed p)
unfolding header
headed_fits p octets = go (eqb (length p) 88) refl
  where
    go : (b : Bool) → eqb (length p) 88 ≡ b → Fitting (headed p)
    go true e =
        rw (headed_read p (eqb-true (length p) 88 e))
        (record {
          number = omega arith;
          scheme = octets 4;
          serial = omega (arith, octets 0, octets 1);
          id = omega (arith, octets 2, octets 3);
        })
    go false e =
        rw (headed_length p (eqb-false (length p) 88 e))
        (record { number = omega arith; scheme = omega arith; serial = omega arith; id = omega arith })

pub unpacked_read_header : UnpackedReadHeader
unpacked_read_header p octets =
    let f = headed_fits p octets in
    (omega arith, omega arith, omega arith, omega arith, omega arith)
