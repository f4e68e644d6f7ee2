-- A chunk of a log: how many octets are read, how it ends, the number of the piece behind it, the answers to its pieces, and how its text goes on.
use Rattle.std.specs.Prelude.{◌≡◌, true, cond, List, ◌++◌, ℕ, ◌+◌, ◌-◌, ◌/◌, ◌%◌, ◌≤◌, Result, Ok, Err, min, length, take, eqb}
use Rattle.sizes.specs.Paper.{whole_blocks}
use Rattle.block.specs.Paper.{Kind, Given, start}
use Rattle.block_history.specs.Claims.{after, completes}
use Rattle.firmware.specs.Paper.{lent}
use Rattle.logs.specs.Paper.{cut, listing}
use Rattle.logs.specs.declared.Chunk.{Chunk}
use Rattle.logs.specs.declared.Ending.{Ending}
use Rattle.logs.specs.declared.Ending.TheVariants as endings
use Rattle.files.specs.declared.ReadFault.{ReadFault}

-- the number of the piece behind a chunk whose first piece has a number; no log has 10^18 pieces
unfoldable pub moved_on : ℕ → List ℕ → ℕ
moved_on number chunk = min (number + length (cut chunk)) 1000000000000000000

-- a log may go on behind a whole chunk, and behind no other
abbrev pub ending_of : ℕ → Ending
ending_of n = cond (eqb n 23552) endings.More endings.Last

-- the chunk that reading into a memory gave: 01 cblist, a shorter tail is a piece too; one before a fault is none
abbrev pub chunk_of : Result ℕ ReadFault → ℕ → List ℕ → Chunk
chunk_of (Ok n) number log = record { octets = n; next = moved_on number (take n log); ending = ending_of n }
chunk_of (Err f) number log =
    record { octets = f.octets - f.octets % 23; next = moved_on number (take (f.octets - f.octets % 23) log); ending = endings.Fault }

-- what is known of a chunk that was read into a memory of 1,024 pieces: what goes on is 1,024 pieces, before a fault stand whole pieces, and the number moves by the pieces
pub record Reads (number : ℕ) (log : List ℕ) (r : Chunk) : Type 0 where
  pub size : length log ≡ 23552
  pub few : r.octets ≤ 23552
  pub whole : r.ending ≡ endings.More → r.octets ≡ 23552
  pub kept : r.ending ≡ endings.Fault → r.octets % 23 ≡ 0
  pub next : r.next ≡ moved_on number (take r.octets log)

-- a message complete: whole blocks are received of it, and the output holds it
pub record Handed (g : Given) (message : List ℕ) : Type 0 where
  pub output : message ≡ g.octets
  pub blocks : whole_blocks g.received ≡ true

-- an answer as an intake call returns it, answer + 256 × octets received, beside what the call leaves in its output
pub record Answers (g : Given) (returned : ℕ) (message : List ℕ) : Type 0 where
  pub number : returned % 256 ≡ g.number
  pub received : returned / 256 ≡ g.received
  pub complete : (k : Kind) → g.number ≡ completes k → Handed g message

-- 01 cblist: the text of a chunk goes on where that of the log before it ends, which is whole chunks of 1,024 pieces:
-- the two are the listing of the log up to the chunk's end, from a start and number 1, and the state is what its pieces leave
pub record Continues (f : ℕ → Given → List ℕ) (state text : List ℕ) (end : ℕ) : Type 0 where
  pub before : List ℕ
  pub chunk : List ℕ
  pub whole : length before % 23552 ≡ 0
  pub told : listing f start 1 (cut (before ++ chunk)) ≡ listing f start 1 (cut before) ++ take end text
  pub states : state ≡ lent (after start (cut (before ++ chunk)))
