-- What our writer writes is accepted.
use Rattle.laws.proofs.Base.{◌≡◌, refl, ap, ◌∙◌, Bool, true, false, not, List, ℕ, ◌+◌, ◌*◌, ◌≤◌, ◌<◌, arith, length, leb, leb-true, eq-eqb, ne_eqb, le-leb, le-ltb}
use Rattle.sizes.specs.Paper.{whole_blocks}
use Rattle.laws.specs.Upto.{some_below, lowest}
use Rattle.laws.proofs.Lowest.{lowest_none}
use Rattle.sizes.proofs.Received.{whole_times}
use Rattle.laws.proofs.Ruled.{ruled_none}
use Rattle.laws.proofs.Upto.{some_none}
use Rattle.plan.specs.Paper.{Plan, plan_number, plans_entry}
use Rattle.plan.proofs.GoodPlan.{good_counted}
use Rattle.schedule.specs.Paper.{Shown, shown, end, tells, new, false_in, false_repeat, new_past, Read, unread, good, read}
use Rattle.schedule.specs.Paper as schedule
use Rattle.sender_message.specs.Paper.{descriptions, message_of, MessageLeft}
use Rattle.sender.specs.Paper.{planned, write}
use Rattle.sender.proofs.Cases.{Accepts, accepts}
use Rattle.checker.specs.Paper.{is_true, untrue, unchecked, refused_at, verdict, check}
use Rattle.checker.specs.Paper as checker
use Rattle.block_writer.specs.Paper.{last_used}
use Rattle.delivery.specs.Claims.{Fits, Reads, OursAccepted}
use Rattle.delivery.proofs as own
use own.ReadsBack.{reads_back}
use own.Planned.{planned_tellable, planned_true, planned_repeats}

-- what the writer takes fits a message
pub fits : (c p : Plan) (b : ℕ) (o : List ℕ) → Accepts c p b o → Fits b (planned c p) c.count
fits c p b o w =
    record {
      some = w.one;
      begins = w.within;
      few = good_counted c w.current;
      tellable = planned_tellable c w.current;
      short = w.few;
    }

-- a message that reads as what is planned of a good plan's slots
module _ (c p : Plan) (b : ℕ) (m : List ℕ) (current : plan_number c ≡ 0) (previous : plan_number p ≡ 0)
    (f : Fits b (planned c p) c.count) (r : Reads m b (planned c p) c.count) where
  -- is refused by no number where all its used octets are received
  reads_good : (received : ℕ) → whole_blocks received ≡ true → 8 + length (descriptions (planned c p) c.count) ≤ received → read m received ≡ good m
  unfolding read
  reads_good received whole-blocks enough =
      let within : schedule.in_bounds m ≡ true =
      simp (r.begins, r.ends, le-leb 1 b f.some, le-leb b c.count f.begins, le-leb c.count 48 f.few) in
      let bits : some_below (new_past m) 48 ≡ false = some_none (new_past m) 48 (λ i l. past_none i (leb (end m) i) refl) in
      let room : schedule.place m (end m) ≤ received = rw (r.ends, r.last) enough in
      let first_told : some_below (false_repeat (tells m)) (end m) ≡ false =
      some_none (false_repeat (tells m)) (end m)
      (λ i l.
      let low : i < c.count = omega (arith, r.ends) in
      ap (false_in (tells m) i) (r.told i low) ∙ planned_repeats c current i low (tells m) r.told) in
      ruled_none unread (schedule.faults m received) (good m) (
        rw (eq-eqb (length m) 88 r.whole),
        (rw whole-blocks, (rw (eq-eqb (schedule.type m) 0 r.typed), (rw within, (bits, (le-ltb received (schedule.place m (end m)) room, (first_told, tt)))))),
      )
    where
      past_none : (i : ℕ) (t : Bool) → leb (end m) i ≡ t → new_past m i ≡ false
      past_none i true e = rw e (r.past i (omega (arith, r.ends, leb-true (end m) i e)))
      past_none i false e = rw e

  -- and tells every slot truly
  slots_true : lowest (untrue c p m) c.count ≡ 0
  slots_true =
      lowest_none (untrue c p m) c.count
      (λ i l.
      let same : shown m i ≡ planned c p i = λ x. record { new = r.marks i l x; told = r.told i l x } in
      ap (λ (s : Shown). not (is_true c p i s)) same ∙ ap not (planned_true c current i l p))

  checks : (received : ℕ) → whole_blocks received ≡ true → 8 + length (descriptions (planned c p) c.count) ≤ received → check c p m received ≡ unchecked 0
  unfolding check
  checks received whole-blocks enough =
      let slots : c.count ≡ 0 → ⊥ = λ e. omega (arith, f.some, f.begins) in
      let reads : (read m received).number ≡ 0 = ap (λ (x : Read). x.number) (reads_good received whole-blocks enough) in
      ruled_none (refused_at (plans_entry c p)) (checker.faults c p m received) (verdict c p m)
      (rw current, (rw previous, (ne_eqb c.count 0 slots, (rw reads, tt))))
      ∙ rw (eq-eqb (end m) c.count r.ends, slots_true)

-- the octets of the blocks up to the last used one
used_blocks_lem : (used : ℕ) → 1 ≤ used → used ≤ 88 → (whole_blocks (22 * last_used used) ≡ true) × (used ≤ 22 * last_used used)
used_blocks_lem used some most = (whole_times (last_used used) (omega arith) (omega arith), omega arith)

module _ (c p : Plan) (b : ℕ) (o : List ℕ) (z : (write c p b o).number ≡ 0) where
  -- some octets are used, and at most the message
  pub used_bounds : (1 ≤ (write c p b o).used) × ((write c p b o).used ≤ 88)
  used_bounds =
      let w = accepts c p b o z in
      let e : (write c p b o).used ≡ 8 + length (descriptions (planned c p) c.count) = ap (λ (x : MessageLeft). x.used) w.writes in
      omega (arith, w.few)

  -- the message is accepted wherever its used octets are received
  accepted_received : (received : ℕ) → whole_blocks received ≡ true → (write c p b o).used ≤ received → check c p (write c p b o).output received ≡ unchecked 0
  accepted_received received whole-blocks enough =
      let w = accepts c p b o z in
      let f = fits c p b o w in
      let e : (write c p b o).used ≡ 8 + length (descriptions (planned c p) c.count) = ap (λ (x : MessageLeft). x.used) w.writes in
      ap (λ (x : MessageLeft). check c p x.output received) w.writes
      ∙ checks c p b (message_of b (planned c p) c.count) w.current w.previous f (reads_back b (planned c p) c.count f) received whole-blocks (omega arith)

pub ours_accepted : OursAccepted
ours_accepted c p b o z =
    let bounds = used_bounds c p b o z in
    let last = used_blocks_lem (write c p b o).used bounds.0 bounds.1 in
    record {
      whole = accepted_received c p b o z 88 (whole_times 4 (omega arith) (omega arith)) bounds.1;
      used = accepted_received c p b o z (22 * last_used (write c p b o).used) last.0 last.1;
    }
