-- A program that lists chunk after chunk lists the log: what holds between two chunks.
use Rattle.laws.proofs.Base.{◌≡◌, refl, ap, ◌∙◌, List, [], ◌++◌, ℕ, ◌+◌, ◌/◌, ◌%◌, ◌≤◌, ◌<◌, arith, length, take, length-append, length-take-le}
use Rattle.block.specs.Paper.{Given, start}
use Rattle.block_history.specs.Claims.{after}
use Rattle.block_history.proofs.History.{after_append}
use Rattle.firmware.specs.Paper.{lent, held_in}
use Rattle.logs.specs as defs
use defs.Inner.{moved_on, Reads, Continues}
use defs.Paper.{cut, listing, pieces}
use defs.declared.Chunk.{Chunk}
use defs.declared.Ending.TheVariants as endings
use Rattle.logs.proofs as own
use own.Chunks.{listing_append}
use own.Pieces.{cut_append, length_cut}

-- whole chunks and what follows them are cut apart
cut_behind : (xs ys : List ℕ) → length xs % 23552 ≡ 0 → cut (xs ++ ys) ≡ cut xs ++ cut ys
cut_behind xs ys e = cut_append (length xs / 23) xs ys (omega arith)

-- what holds between two chunks: state and number are those that the log so far leaves
pub record Going (f : ℕ → Given → List ℕ) (size : ℕ) (state text log message : List ℕ) (number end : ℕ) : Type 0 where
  pub all : List ℕ
  pub whole : length all % 23552 ≡ 0
  pub states : state ≡ lent (after start (cut all))
  pub counted : number ≡ moved_on 1 all
  pub told : Continues f state text end
  pub state_size : length state ≡ 90
  pub text_size : length text ≡ size
  pub log_size : length log ≡ 23552
  pub message_size : length message ≡ 88

-- before the first chunk
pub going_start : (f : ℕ → Given → List ℕ) (size : ℕ) {state text log message : List ℕ} → (state ≡ lent start) × (length text ≡ size)
    → length log ≡ 23552 → length message ≡ 88 → Going f size state text log message 1 0
unfolding after pieces listing moved_on
going_start f size h long₁ long₂ =
    record {
      all = [];
      whole = refl;
      states = h.0;
      counted = refl;
      told = record { before = []; chunk = []; whole = refl; told = refl; states = h.0 };
      state_size = ap length h.0;
      text_size = h.1;
      log_size = long₁;
      message_size = long₂;
    }

module _ {f : ℕ → Given → List ℕ} {size : ℕ} {state text log message : List ℕ} {number end : ℕ} (g : Going f size state text log message number end)
    (few : number < 1000000000000000000) {log' : List ℕ} {r : Chunk} (reads : Reads number log' r) where
  abbrev octets : List ℕ
  octets = take r.octets log'

  octets_size : length octets ≡ r.octets
  octets_size = length-take-le r.octets log' (omega (arith, reads.few, reads.size))

  -- the number behind a chunk that goes on is higher
  pub goes_higher : r.ending ≡ endings.More → number < r.next
  unfolding moved_on
  goes_higher more = omega (arith, reads.next, length_cut octets, octets_size, reads.whole more)

  held : held_in state ≡ after start (cut g.all)
  held = ap held_in g.states

  number_is : number ≡ 1 + length (cut g.all)
  unfolding moved_on
  number_is = omega (arith, g.counted)

  leaves : {state' : List ℕ} → state' ≡ lent (after (held_in state) (cut octets)) → state' ≡ lent (after start (cut (g.all ++ octets)))
  leaves e = rw (cut_behind g.all octets g.whole, after_append start (cut g.all) (cut octets), ← held) e

  module _ {state' text' : List ℕ} {end' : ℕ}
      (listed : (take end' text' ≡ listing f (held_in state) number (cut (take r.octets log')))
      × (state' ≡ lent (after (held_in state) (cut (take r.octets log')))) × (end' ≤ size)) where
    -- a chunk more, the last one or not
    pub turn_told : Continues f state' text' end'
    turn_told =
        record {
          before = g.all;
          chunk = octets;
          whole = g.whole;
          told =
              rw (cut_behind g.all octets g.whole)
              (listing_append f start 1 (cut g.all) (cut octets) ∙ rw (← held, ← number_is, listed.0));
          states = leaves listed.1;
        }

    -- a whole chunk, behind which the log may go on
    pub turn_going : {message' : List ℕ} → r.ending ≡ endings.More → length state' ≡ length state → length message' ≡ length message → length text' ≡ length text
        → Going f size state' text' log' message' r.next end'
    unfolding moved_on
    turn_going more size₁ size₂ size₃ =
        let count : length (cut (g.all ++ octets)) ≡ length (cut g.all) + length (cut octets) =
        rw (cut_behind g.all octets g.whole) (length-append (cut g.all) (cut octets)) in
        record {
          all = g.all ++ octets;
          whole = rw (length-append g.all octets) (omega (arith, g.whole, octets_size, reads.whole more));
          states = leaves listed.1;
          counted = omega (arith, number_is, reads.next);
          told = turn_told;
          state_size = size₁ ∙ g.state_size;
          text_size = size₃ ∙ g.text_size;
          log_size = reads.size;
          message_size = size₂ ∙ g.message_size;
        }
