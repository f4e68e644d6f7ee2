-- The cases that document 01 marks P, and those of document 02's Nos. 5 and 6: for each, what the definitions give and what the document says, as lists of numbers.
use Rattle.std.specs.Prelude.{◌≡◌, true, cond, List, [], ◌∷◌, ◌++◌, map, ℕ, ◌+◌, ◌*◌, ◌-◌, ◌%◌, length, get_or, take, drop, replicate}
use Rattle.laws.specs.Upto.{each}
use Rattle.page.specs.Paper.{Heading, header_octets}
use Rattle.text.specs.Paper as text
use Rattle.block.specs.Paper as block
use Rattle.block_writer.specs.Paper as writer
use Rattle.plan.specs.Paper.{Entry, Plan, filled_plan, empty}
use Rattle.schedule.specs.Paper as schedule
use Rattle.sender_message.specs.Paper.{MessageLeft, padded}
use Rattle.sender.specs.Paper as sender
use Rattle.board.specs.Paper.{Decided, decide}

-- 01 Blocks: the type octets of the four blocks of a page with some used octets
abbrev pub types : ℕ → List ℕ
types used = each (λ (i : ℕ). get_or (writer.written_blocks (replicate 88 0) block.page used (replicate 92 0)).output (23 * i) 0) 4

-- 01 Page and text: serial number 0010, identifier 8001, scheme 00, parameter 11
abbrev pub page_heading : Heading
page_heading = record { serial = 0x0010; id = 0x8001; scheme = 0x00; parameter = 0x11 }

-- 01 Page and text: a text written with that header
abbrev pub text_written : List ℕ → text.PageLeft
text_written t = text.written_page page_heading t (replicate 88 0)

-- 01 Page and text: the number given for a text, and how many content octets it uses
abbrev pub text_used : List ℕ → List ℕ
text_used t = (text_written t).number ∷ ((text_written t).used - 6) ∷ []

-- 01 Page and text: the same of some characters A
abbrev pub content_used : ℕ → List ℕ
content_used n = text_used (replicate n 65)

-- 01 Page and text: the first n content octets of a text, and its last
abbrev pub content_ends : ℕ → List ℕ → List ℕ
content_ends n t = take n (drop 6 (text_written t).page) ++ drop 87 (text_written t).page

-- 01 The plan: a page with serial number 0010, an identifier and parameter 11
abbrev pub slot : ℕ → Entry
slot id = record { kind = 2; serial = 0x0010; id = id; parameter = 0x11 }

-- 01 Where the edges are: both slots with identifier 8001
abbrev pub two_slots : Plan
two_slots = filled_plan (slot 0x8001 ∷ slot 0x8001 ∷ [])

-- 01 The plan: the schedule message with Begin 1 beside a previous plan
abbrev pub scheduled : Plan → Plan → MessageLeft
scheduled c p = sender.write c p 1 (replicate 88 0)

-- 01 The plan: the writer's number, the used octets and the message
abbrev pub whole : MessageLeft → List ℕ
whole w = w.number ∷ w.used ∷ w.output

-- 01 The plan: n page slots with k different pages, one after the other and then from the first again
abbrev pub pages : ℕ → ℕ → Plan
pages n k = filled_plan (each (λ (i : ℕ). slot (i % k)) n)

-- 01 The plan: the writer's number and the used octets
abbrev pub fitting : Plan → List ℕ
fitting c = (scheduled c empty).number ∷ (scheduled c empty).used ∷ []

-- 01 Schedule message: a message of two octets, no new bits and some descriptions, then 2B
abbrev pub sent : ℕ → ℕ → List ℕ → List ℕ
sent x y o = padded (x ∷ y ∷ replicate 6 0 ++ o)

-- 01 Schedule message: what reading it gives, all received: number, Begin, End
abbrev pub read_numbers : List ℕ → List ℕ
read_numbers m = (schedule.read m 88).number ∷ (schedule.read m 88).begin ∷ (schedule.read m 88).end ∷ []

-- 01 Decision: slot 1 of the two-slot plan's message with one wanted identifier and nothing held
abbrev pub decided : ℕ → Decided
decided wanted =
    decide (record { known = true; message = (scheduled two_slots empty).output; received = 88 }) 1 (record { count = 1; ids = wanted ∷ [] }) 0

-- 01 Decision: its number, and 1 for read or 0 for skip
abbrev pub decision_numbers : ℕ → List ℕ
decision_numbers wanted = (decided wanted).number ∷ cond (decided wanted).read 1 0 ∷ []

-- 01 Where the edges are, line by line
abbrev pub cases : List (List ℕ × List ℕ)
cases =
    -- used 22 gives types 30 31 32 33 for a page; 23 gives 20 31 32 33; 88 gives 20 21 22 33
    (types 22, 0x30 ∷ 0x31 ∷ 0x32 ∷ 0x33 ∷ [])
    ∷ (types 23, 0x20 ∷ 0x31 ∷ 0x32 ∷ 0x33 ∷ [])
    ∷ (types 88, 0x20 ∷ 0x21 ∷ 0x22 ∷ 0x33 ∷ [])
    -- 18 characters use 16 content octets, 19 use 17, 93 use 82
    ∷ (content_used 18, 0 ∷ 16 ∷ [])
    ∷ (content_used 19, 0 ∷ 17 ∷ [])
    ∷ (content_used 93, 0 ∷ 82 ∷ [])
    -- empty text: content begins 8D 46 A3; text "A" begins C1 46; the last content octet of each is 00
    ∷ (content_ends 3 [], 0x8d ∷ 0x46 ∷ 0xa3 ∷ 0x00 ∷ [])
    ∷ (content_ends 2 (65 ∷ []), 0xc1 ∷ 0x46 ∷ 0x00 ∷ [])
    -- the two-slot plan with no previous plan; with the same plan before it, C0 becomes 00
    ∷ (whole (scheduled two_slots empty), 0 ∷ 11 ∷ 0x01 ∷ 0x02 ∷ 0xc0 ∷ 0 ∷ 0 ∷ 0 ∷ 0 ∷ 0 ∷ 0x80 ∷ 0x01 ∷ 0x01 ∷ replicate 77 0x2b)
    ∷ (whole (scheduled two_slots two_slots), 0 ∷ 11 ∷ 0x01 ∷ 0x02 ∷ 0x00 ∷ 0 ∷ 0 ∷ 0 ∷ 0 ∷ 0 ∷ 0x80 ∷ 0x01 ∷ 0x01 ∷ replicate 77 0x2b)
    -- 48 page slots with 32 different pages fit (80 octets); 33 give 34; 40 different pages in 40 slots fit, 41 in 41 don't
    ∷ (fitting (pages 48 32), 0 ∷ (8 + 80) ∷ [])
    ∷ (fitting (pages 48 33), 34 ∷ 0 ∷ [])
    ∷ (fitting (pages 40 40), 0 ∷ (8 + 80) ∷ [])
    ∷ (fitting (pages 41 41), 34 ∷ 0 ∷ [])
    -- End octet C2 is End 2; 31 gives 21; first octet 41 gives 20; a repeat in slot 1 gives 24
    ∷ (read_numbers (sent 0x01 0xc2 (0x40 ∷ 0x40 ∷ [])), 0 ∷ 1 ∷ 2 ∷ [])
    ∷ (read_numbers (sent 0x01 0x31 []), 21 ∷ 0 ∷ 0 ∷ [])
    ∷ (read_numbers (sent 0x41 0x02 (0x40 ∷ 0x40 ∷ [])), 20 ∷ 0 ∷ 0 ∷ [])
    ∷ (read_numbers (sent 0x01 0x01 (0x01 ∷ [])), 24 ∷ 0 ∷ 0 ∷ [])
    -- wanted 0001 reads the slot of identifier 8001; and for its identifier, as wanted 0002 skips it
    ∷ (decision_numbers 0x0001, 0 ∷ 1 ∷ [])
    ∷ (decision_numbers 0x0002, 0 ∷ 0 ∷ [])
    ∷ []

-- every case of a list is as the document says
abbrev pub AsSaid : List (List ℕ × List ℕ) → Type 0
AsSaid cs = map (λ (x : List ℕ × List ℕ). x.0) cs ≡ map (λ (x : List ℕ × List ℕ). x.1) cs

-- 01 Where the edges are
abbrev pub Edges : Type 0
Edges = AsSaid cases

-- 02 No. 5: a page of 93 septets
abbrev pub page_of : List ℕ → List ℕ
page_of s = header_octets page_heading ++ text.packed s

-- 02 No. 5: what reading n octets of it gives: number, characters, and the code points from place k on
abbrev pub read_from : ℕ → ℕ → List ℕ → List ℕ
read_from k n p =
    let r : text.Reading = text.reading p n (replicate 93 0) in
    r.number ∷ r.characters ∷ take (r.characters - k) (drop k r.text)

-- 02 No. 5: letters A but for 1B and 3C, which is [ as a pair, in places k and k + 1
abbrev pub bracket_at : ℕ → List ℕ
bracket_at k = page_of (take 93 (replicate (k - 1) 0x41 ++ (0x1b ∷ 0x3c ∷ replicate (92 - k) 0x41)))

-- 02 No. 5: some septets, and CRs up to 93
abbrev pub with_crs : List ℕ → List ℕ
with_crs s = page_of (s ++ replicate (93 - length s) 0x0d)

-- 02 No. 5: what its sentences on writing say, case by case
abbrev pub pairs_written : List (List ℕ × List ℕ)
pairs_written =
    -- 46 pairs and one plain character fill a page; 47 pairs are too many septets, as 94 plain characters are
    (text_used (replicate 46 0x5b ++ (0x41 ∷ [])), 0 ∷ 82 ∷ [])
    ∷ (text_used (replicate 46 0x20ac ++ (0x41 ∷ [])), 0 ∷ 82 ∷ [])
    ∷ ((text_written (replicate 47 0x5b)).number ∷ [], 10 ∷ [])
    ∷ ((text_written (replicate 94 0x41)).number ∷ [], 10 ∷ [])
    -- 11 comes before 10, and 10 before 12: the last of 94 characters is in neither table, or CR
    ∷ ((text_written (replicate 93 0x41 ++ (0x60 ∷ []))).number ∷ [], 11 ∷ [])
    ∷ ((text_written (replicate 93 0x41 ++ (0x0d ∷ []))).number ∷ [], 10 ∷ [])
    -- all ten are written
    ∷ (text_used (0x0c ∷ 0x5e ∷ 0x7b ∷ 0x7d ∷ 0x5c ∷ 0x5b ∷ 0x7e ∷ 0x5d ∷ 0x7c ∷ 0x20ac ∷ []), 0 ∷ 18 ∷ [])
    -- a text that ends in ] is written
    ∷ (text_used (0x5b ∷ 0x37 ∷ 0x5d ∷ []), 0 ∷ 5 ∷ [])
    ∷ []

-- 02 No. 5: what its sentences on reading say, case by case
abbrev pub pairs_read : List (List ℕ × List ℕ)
pairs_read =
    -- it is read
    (read_from 0 22 (text_written (0x5b ∷ 0x37 ∷ 0x5d ∷ [])).page, 0 ∷ 3 ∷ 0x5b ∷ 0x37 ∷ 0x5d ∷ [])
    -- and so are all ten
    ∷ (read_from 0 44 (text_written (0x0c ∷ 0x5e ∷ 0x7b ∷ 0x7d ∷ 0x5c ∷ 0x5b ∷ 0x7e ∷ 0x5d ∷ 0x7c ∷ 0x20ac ∷ [])).page, 0 ∷ 10 ∷ 0x0c ∷ 0x5e ∷ 0x7b ∷ 0x7d ∷ 0x5c ∷ 0x5b ∷ 0x7e ∷ 0x5d ∷ 0x7c ∷ 0x20ac ∷ [])
    -- 1B as the last whole septet received is a space, though the next block has the rest
    ∷ (read_from 17 22 (bracket_at 18), 0 ∷ 18 ∷ 0x20 ∷ [])
    ∷ (read_from 42 44 (bracket_at 43), 0 ∷ 43 ∷ 0x20 ∷ [])
    ∷ (read_from 67 66 (bracket_at 68), 0 ∷ 68 ∷ 0x20 ∷ [])
    ∷ (read_from 92 88 (bracket_at 93), 0 ∷ 93 ∷ 0x20 ∷ [])
    -- with the rest received it is one character with the septet after it
    ∷ (take 3 (read_from 17 44 (bracket_at 18)), 0 ∷ 42 ∷ 0x5b ∷ [])
    -- 1B with an unlisted septet is that septet's character; 1B twice is one space, and the second doesn't escape
    ∷ (read_from 0 22 (with_crs (0x1b ∷ 0x41 ∷ [])), 0 ∷ 1 ∷ 0x41 ∷ [])
    ∷ (read_from 0 22 (with_crs (0x1b ∷ 0x1b ∷ 0x3c ∷ [])), 0 ∷ 2 ∷ 0x20 ∷ 0x3c ∷ [])
    -- CRs at the end are dropped, but an escaped one stays, and one before it
    ∷ (read_from 0 22 (with_crs (0x41 ∷ 0x0d ∷ 0x1b ∷ 0x0d ∷ [])), 0 ∷ 3 ∷ 0x41 ∷ 0x0d ∷ 0x0d ∷ [])
    ∷ (read_from 0 22 (with_crs (0x41 ∷ 0x0d ∷ [])), 0 ∷ 1 ∷ 0x41 ∷ [])
    ∷ []

-- 02 No. 6: what reading n octets of a page leaves of k places that hold 2A: number, characters, and all places
abbrev pub read_over : ℕ → ℕ → List ℕ → List ℕ
read_over k n p =
    let r : text.Reading = text.reading p n (replicate k 0x2a) in
    r.number ∷ r.characters ∷ r.text

-- 02 No. 6: what its sentences say, case by case
abbrev pub blanks_read : List (List ℕ × List ℕ)
blanks_read =
    -- an empty text leaves 93 spaces, and after A stand 92
    (read_over 93 22 (text_written []).page, 0 ∷ 0 ∷ replicate 93 0x20)
    ∷ (read_over 93 22 (text_written (0x41 ∷ [])).page, 0 ∷ 1 ∷ 0x41 ∷ replicate 92 0x20)
    -- spaces at a text's end count, though the places are the same
    ∷ (read_over 93 22 (text_written (0x41 ∷ 0x20 ∷ 0x20 ∷ [])).page, 0 ∷ 3 ∷ 0x41 ∷ replicate 92 0x20)
    ∷ (read_over 93 88 (text_written (replicate 93 0x20)).page, 0 ∷ 93 ∷ replicate 93 0x20)
    -- past the part that was received stand spaces too
    ∷ (read_over 93 22 (text_written (replicate 93 0x41)).page, 0 ∷ 18 ∷ replicate 18 0x41 ++ replicate 75 0x20)
    -- a refusal leaves the places as they were
    ∷ (read_over 92 22 (text_written []).page, 15 ∷ 0 ∷ replicate 92 0x2a)
    ∷ (read_over 93 22 [], 16 ∷ 0 ∷ replicate 93 0x2a)
    ∷ (read_over 93 21 (text_written []).page, 18 ∷ 0 ∷ replicate 93 0x2a)
    ∷ (read_over 93 22 (replicate 88 0x10), 13 ∷ 0 ∷ replicate 93 0x2a)
    ∷ []

-- 02 No. 5
abbrev pub PairEdgesWritten : Type 0
PairEdgesWritten = AsSaid pairs_written

abbrev pub PairEdgesRead : Type 0
PairEdgesRead = AsSaid pairs_read

-- 02 No. 6
abbrev pub BlankEdges : Type 0
BlankEdges = AsSaid blanks_read
