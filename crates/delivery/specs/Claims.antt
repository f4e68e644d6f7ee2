-- What is sent arrives: a message reads back as it was written, ours is accepted, and text and schedules go through blocks and intake. Slots are counted from 0 here: slot i is number i + 1.
use Rattle.std.specs.Prelude.{◌≡◌, false, true, List, ℕ, ◌+◌, ◌≤◌, ◌<◌, ◌*◌, suc, ◌-◌, length, take, drop}
use Rattle.laws.specs.Radix.{Below}
use Rattle.schedule.specs.Paper.{Told, first, again, optional, advised, Shown, type, begin, end, new, tells, place}
use Rattle.sender_message.specs.Paper.{descriptions, message_of, MessageLeft}
use Rattle.sender.specs.Paper.{write}
use Rattle.plan.specs.Paper.{Plan}
use Rattle.block.specs.Paper.{Kind, page, schedule, Held, Given, filled, start, proper, step}
use Rattle.block_writer.specs.Paper.{last_used, written_blocks}
use Rattle.checker.specs.Paper.{check, unchecked}
use Rattle.laws.specs.Upto.{each}
use Rattle.page.specs.Paper.{Heading, header}
use Rattle.block_history.specs.Claims.{completes, after}
use Rattle.text.specs.Paper as text
use Rattle.text_back.specs.Claims.{given_back}

-- 01 Schedule message, Descriptions: what a description has room for: 15 bits of an identifier, six bits of a slot
abbrev pub Tellable : Told → Type 0
Tellable (first x) = x < 32768
Tellable (again n) = n < 64
Tellable optional = Unit {0}
Tellable advised = Unit {0}

-- 01 Schedule message: a telling s of n slots, with Begin b, that a message has room for
pub record Fits (b : ℕ) (s : ℕ → Shown) (n : ℕ) : Type 0 where
  pub some : 1 ≤ b
  pub begins : b ≤ n
  pub few : n ≤ 48
  pub tellable : (i : ℕ) → i < n → Tellable (s i).told
  pub short : length (descriptions s n) ≤ 80

-- 01 Schedule message: a message m reads as that telling
pub record Reads (m : List ℕ) (b : ℕ) (s : ℕ → Shown) (n : ℕ) : Type 0 where
  pub whole : length m ≡ 88
  pub octets : Below 256 m
  pub typed : type m ≡ 0
  pub begins : begin m ≡ b
  pub ends : end m ≡ n
  pub marks : (i : ℕ) → i < n → new m i ≡ (s i).new
  pub past : (i : ℕ) → n ≤ i → new m i ≡ false
  pub told : (i : ℕ) → i < n → tells m i ≡ (s i).told
  pub last : place m n ≡ 8 + length (descriptions s n)

-- 00 demand 3: what is written of slots is what a board reads of them
abbrev pub ReadsBack : Type 0
ReadsBack = (b : ℕ) (s : ℕ → Shown) (n : ℕ) → Fits b s n → Reads (message_of b s n) b s n

-- 01 The plan, our writer: its message is accepted with 88 received, and with 22 times the block that holds the last used octet
pub record Accepted (c p : Plan) (w : MessageLeft) : Type 0 where
  pub whole : check c p w.output 88 ≡ unchecked 0
  pub used : check c p w.output (22 * last_used w.used) ≡ unchecked 0

-- 00 demand 3: what our sender writes is always accepted
abbrev pub OursAccepted : Type 0
OursAccepted = (c p : Plan) (b : ℕ) (o : List ℕ) → (write c p b o).number ≡ 0 → Accepted c p (write c p b o)

-- 01 Intake: a state is proper after start, whatever pieces are given to it
abbrev pub StartedProper : Type 0
StartedProper = (ps : List (List ℕ)) → proper (after start ps) ≡ true

-- 01 Blocks: block i, counted from 0, of the 92 octets that the block writer leaves
abbrev pub block_of : List ℕ → ℕ → List ℕ
block_of o i = take 23 (drop (23 * i) o)

-- 01 Blocks, Intake: a message m of kind k is cut into blocks by way of the output o: the answer to block i, after the blocks before it, of a board in state h
abbrev pub taken_at : Kind → List ℕ → ℕ → List ℕ → Held → ℕ → Given
taken_at k m used o h i = step (after h (each (block_of (written_blocks m k used o).output) i)) (block_of (written_blocks m k used o).output i)

-- 01 Blocks, Intake: the answer to the last used block
abbrev pub handed_out : Kind → List ℕ → ℕ → List ℕ → Held → Given
handed_out k m used o h = taken_at k m used o h (last_used used - 1)

-- 01 Blocks, Intake: what a board in state h answers to the four blocks
pub record Carried (k : Kind) (m : List ℕ) (used : ℕ) (o : List ℕ) (h : Held) : Type 0 where
  -- all four are written
  pub done : (written_blocks m k used o).number ≡ 0
  -- those before the last used one are only taken
  pub taken : (i : ℕ) → suc i < last_used used → (taken_at k m used o h i).number ≡ 1
  -- that one hands the message out, as far as its blocks go and then 2B
  pub handed : handed_out k m used o h
      ≡ record { number = completes k; received = 22 * last_used used; octets = filled (take (22 * last_used used) m); next = start }
  -- those after it are not next
  pub ignored : (i : ℕ) → last_used used ≤ i → i < 4 → (taken_at k m used o h i).number ≡ 6

-- 01 Page and text: what a board in state h is handed of a text t that is written to a page p
abbrev pub text_handed : Heading → List ℕ → List ℕ → List ℕ → Held → Given
text_handed heading t p o h = handed_out page (text.written_page heading t p).page (text.written_page heading t p).used o h

-- 01 Page and text: that text, sent to a board in state h, is heard
pub record Heard (heading : Heading) (t p o u : List ℕ) (h : Held) : Type 0 where
  pub carried : Carried page (text.written_page heading t p).page (text.written_page heading t p).used o h
  -- read into u, it is the text that was written
  pub reads : text.reading (text_handed heading t p o h).octets (text_handed heading t p o h).received u
      ≡ given_back t

-- 00 demand 2: text written, cut into blocks and taken in order gives the same text, on any board whose state is proper
abbrev pub OverTheAir : Type 0
OverTheAir =
    (heading : Heading) (t p o u : List ℕ) (h : Held) → (text.written_page heading t p).number ≡ 0 → length o ≡ 92 → length u ≡ 93 → proper h ≡ true
    → Heard heading t p o u h

-- 01 Page and text: its page is handed out with the serial number, identifier, scheme and parameter that were written, on any such board
abbrev pub HeaderOverTheAir : Type 0
HeaderOverTheAir =
    (heading : Heading) (t p o : List ℕ) (h : Held) → (text.written_page heading t p).number ≡ 0 → length o ≡ 92 → proper h ≡ true
    → ((text_handed heading t p o h).number ≡ completes page) × (header (take 6 (text_handed heading t p o h).octets) ≡ heading)

-- 01 The plan, our writer: what a board in state h is handed of the schedule message of c and p with Begin b, written to m
abbrev pub schedule_handed : Plan → Plan → ℕ → List ℕ → List ℕ → Held → Given
schedule_handed c p b m o h = handed_out schedule (write c p b m).output (write c p b m).used o h

-- 01 The plan, our writer: that message, sent to a board in state h, is delivered
pub record Delivered (c p : Plan) (b : ℕ) (m o : List ℕ) (h : Held) : Type 0 where
  pub carried : Carried schedule (write c p b m).output (write c p b m).used o h
  -- it is the message that was written, with the 2B after its used part
  pub same : (schedule_handed c p b m o h).octets ≡ (write c p b m).output
  -- and it is accepted with the octets received
  pub accepted : check c p (schedule_handed c p b m o h).octets (schedule_handed c p b m o h).received ≡ unchecked 0

-- 00 demand 3: what our sender writes is accepted after blocks and intake too, on any board whose state is proper
abbrev pub OursDelivered : Type 0
OursDelivered =
    (c p : Plan) (b : ℕ) (m o : List ℕ) (h : Held) → (write c p b m).number ≡ 0 → length o ≡ 92 → proper h ≡ true → Delivered c p b m o h
