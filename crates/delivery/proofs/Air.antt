-- Messages that go out in four blocks and are taken in order by a board.
use Rattle.laws.proofs.Base.{◌≡◌, refl, sym, ap, ◌∙◌, true, cond, List, ◌++◌, append_assoc, ℕ, zero, suc, ◌+◌, ◌*◌, ◌-◌, ◌≤◌, ◌<◌, min, arith, length, take, replicate}
use Rattle.laws.proofs.Base.{length-append, length-replicate, replicate-append-replicate, length-take-le, take_at, take-append-add, eqb, eq-eqb, ne_eqb, lt-ltb, le-ltb}
use Rattle.laws.specs.Upto.{each}
use Rattle.laws.proofs.Parts.{take_replicate}
use Rattle.block.specs.Paper.{Kind, page, schedule, kind_number, Held, Given, filled, start, proper, step}
use Rattle.block_writer.specs.Paper.{last_used, blocks, BlocksLeft, written_blocks}
use Rattle.block_history.specs.Claims.{after, piece, first_pieces, expected, completes}
use Rattle.block_history.proofs.History.{standing, standing_proper, number_handed}
use Rattle.block_history.proofs.Taken.{blocks_taken}
use Rattle.page.specs.Paper.{Heading, header}
use Rattle.text.specs.Paper as text
use Rattle.text_back.proofs.Back.{written_length, used_bounds as text_used_lem, text_back_blocks, heading_back}
use Rattle.sender_message.specs.Paper.{used_part, padded, MessageLeft}
use Rattle.sender_message.proofs.Message.{used_length}
use Rattle.sender.specs.Paper.{planned, write}
use Rattle.sender.proofs.Cases.{accepts}
use Rattle.checker.specs.Paper.{check}
use Rattle.delivery.specs.Claims.{block_of, taken_at, StartedProper, Carried, text_handed, Heard, OverTheAir, HeaderOverTheAir, OursDelivered}
use Rattle.delivery.proofs as own
use own.ReadsBack.{reads_back}
use own.Accepted.{fits, used_bounds, ours_accepted}

pub started_proper : StartedProper
started_proper ps = standing_proper (standing ps)

pieces_each : (k : Kind) (used : ℕ) (m : List ℕ) (n : ℕ) → first_pieces k used m n ≡ each (block_of (blocks k used m 4)) n
unfolding first_pieces each
pieces_each k used m zero = refl
pieces_each k used m (suc n) = rw (pieces_each k used m n)

module _ (m : List ℕ) (used : ℕ) (whole : length m ≡ 88) (most : used ≤ 88) where
  abbrev cut : List ℕ
  cut = take (22 * last_used used) m

  cut_length : length cut ≡ 22 * last_used used
  cut_length = length-take-le (22 * last_used used) m (omega arith)

  -- what is handed out is a page or message, and agrees with the one that was written as far as its blocks go
  handed_length : length (filled cut) ≡ 88
  handed_length = rw (length-append, length-replicate) (omega (arith, cut_length))

  handed_agrees : take (22 * last_used used) (filled cut) ≡ cut
  handed_agrees = take_at cut _ (22 * last_used used) cut_length

module _ (k : Kind) (m : List ℕ) (used : ℕ) (o : List ℕ) (h : Held) (whole : length m ≡ 88) (some : 1 ≤ used) (most : used ≤ 88) (room : length o ≡ 92) (good : proper h ≡ true) where
  blocks_written : written_blocks m k used o ≡ record { number = 0; output = blocks k used m 4 }
  unfolding written_blocks
  blocks_written = simp (eq-eqb (length o) 92 room, eq-eqb (length m) 88 whole, ne_eqb used 0 (omega arith), le-ltb 88 used most)

  taken_expected : (i : ℕ) → i < 4 → taken_at k m used o h i ≡ expected k used m i
  taken_expected i l =
      ap (λ (x : BlocksLeft). step (after h (each (block_of x.output) i)) (block_of x.output i)) blocks_written
      ∙ ap (λ (ps : List (List ℕ)). step (after h ps) (piece k used m i)) (sym (pieces_each k used m i))
      ∙ blocks_taken k used m h whole some most good i l

  handed_last : expected k used m (last_used used - 1)
      ≡ record { number = cond (eqb (kind_number k) 2) 7 0; received = 22 * last_used used; octets = filled (take (22 * last_used used) m); next = start }
  handed_last =
      let j = last_used used in
      let up : suc (j - 1) ≡ j = omega arith in
      rw (le-ltb (suc (j - 1)) j (omega arith), eq-eqb (suc (j - 1)) j up, up)

  carries : Carried k m used o h
  carries =
      let j = last_used used in
      record {
        done = ap (λ (x : BlocksLeft). x.number) blocks_written;
        taken = λ i l. ap (λ (g : Given). g.number) (taken_expected i (omega arith)) ∙ rw (lt-ltb (suc i) j l);
        handed =
            taken_expected (j - 1) (omega arith) ∙ handed_last
            ∙ ap (λ (n : ℕ). record { number = n; received = 22 * j; octets = filled (take (22 * j) m); next = start }) (number_handed k);
        ignored =
            λ i l f. ap (λ (g : Given). g.number) (taken_expected i f)
            ∙ rw (le-ltb (suc i) j (omega arith), ne_eqb (suc i) j (omega arith));
      }

-- a page with text, taken in order
module _ (heading : Heading) (t p o : List ℕ) (h : Held) (z : (text.written_page heading t p).number ≡ 0) (room : length o ≡ 92) (good : proper h ≡ true) where
  abbrev w : text.PageLeft
  w = text.written_page heading t p

  whole : length w.page ≡ 88
  whole = written_length heading t p z

  bounds : (6 ≤ w.used) × (w.used ≤ 88)
  bounds = text_used_lem heading t p z

  text_carried : Carried page w.page w.used o h
  text_carried = carries page w.page w.used o h whole (omega (arith, bounds.0)) bounds.1 room good

  text_agrees : take (22 * last_used w.used) (text_handed heading t p o h).octets ≡ take (22 * last_used w.used) w.page
  text_agrees = ap (λ (g : Given). take (22 * last_used w.used) g.octets) text_carried.handed ∙ handed_agrees w.page w.used whole bounds.1

  heard : (u : List ℕ) → length u ≡ 93 → Heard heading t p o u h
  heard u size =
      let q = (text_handed heading t p o h).octets in
      let long : length q ≡ 88 = ap (λ (g : Given). length g.octets) text_carried.handed ∙ handed_length w.page w.used whole bounds.1 in
      record {
        carried = text_carried;
        reads = ap (λ (g : Given). text.reading q g.received u) text_carried.handed ∙ text_back_blocks heading t p q u z long size text_agrees;
      }

  headed : ((text_handed heading t p o h).number ≡ completes page) × (header (take 6 (text_handed heading t p o h).octets) ≡ heading)
  headed =
      let least = bounds.0 in (
        ap (λ (g : Given). g.number) text_carried.handed,
        heading_back heading t p (text_handed heading t p o h).octets (22 * last_used w.used) z (omega arith) text_agrees,
      )

pub over_the_air : OverTheAir
over_the_air heading t p o u h z room size good = heard heading t p o h z room good u size

pub header_over_the_air : HeaderOverTheAir
header_over_the_air heading t p o h z room good = headed heading t p o h z room good

-- 2B that is cut off a padded message is put back
filled_padded : (x : List ℕ) (n : ℕ) → length x ≤ n → n ≤ 88 → filled (take n (padded x)) ≡ padded x
unfolding padded
filled_padded x n l h =
    let a = n - length x in
    let here : length x + a ≡ n = omega arith in
    let least : min a (88 - length x) ≡ a = omega arith in
    let cut : take n (padded x) ≡ x ++ replicate a 43 =
    ap (λ (k : ℕ). take k (padded x)) (sym here)
    ∙ take-append-add x (replicate (88 - length x) 43) a
    ∙ ap (λ (y : List ℕ). x ++ y) (take_replicate a (88 - length x) 43 ∙ ap (λ (k : ℕ). replicate k 43) least) in
    let size : length (x ++ replicate a 43) ≡ n = length-append x (replicate a 43) ∙ rw length-replicate here in
    let rest : a + (88 - n) ≡ 88 - length x = omega arith in
    ap filled cut
    ∙ rw (size, append_assoc x (replicate a 43) (replicate (88 - n) 43), replicate-append-replicate a (88 - n), rest)

pub ours_delivered : OursDelivered
ours_delivered c p b m o h z room good =
    let w = write c p b m in
    let v = accepts c p b m z in
    let bounds = used_bounds c p b m z in
    let k = 22 * last_used w.used in
    let x = used_part b (planned c p) c.count in
    let output : w.output ≡ padded x = ap (λ (y : MessageLeft). y.output) v.writes in
    let used : w.used ≡ length x = ap (λ (y : MessageLeft). y.used) v.writes ∙ sym (used_length b (planned c p) c.count) in
    let whole : length w.output ≡ 88 = ap length output ∙ (reads_back b (planned c p) c.count (fits c p b m v)).whole in
    let sent : Carried schedule w.output w.used o h = carries schedule w.output w.used o h whole bounds.0 bounds.1 room good in
    let kept : filled (take k w.output) ≡ w.output =
    ap (λ (y : List ℕ). filled (take k y)) output ∙ filled_padded x k (omega arith) (omega arith) ∙ sym output in
    record {
      carried = sent;
      same = ap (λ (g : Given). g.octets) sent.handed ∙ kept;
      accepted =
          ap (λ (g : Given). check c p g.octets g.received) sent.handed
          ∙ ap (λ (y : List ℕ). check c p y k) kept
          ∙ (ours_accepted c p b m z).used;
    }
