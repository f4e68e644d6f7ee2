-- A text of several pages arrives: written with one serial number and identifier, cut into blocks, taken in and collected, it is read back page by page. Pages are counted from 0 here: page i has number i + 1.
use Rattle.std.specs.Prelude.{◌≡◌, Bool, true, cond, List, [], ◌∷◌, ◌++◌, map, ◌↔◌, ℕ, suc, ◌+◌, ◌*◌, ◌≤◌, ◌<◌, length, replicate, eqb}
use Rattle.laws.specs.Search.{some}
use Rattle.laws.specs.Upto.{each}
use Rattle.block.specs.Paper as block
use Rattle.block_writer.specs.Paper.{written_blocks}
use Rattle.block_history.specs.Claims as pieces
use Rattle.page.specs.Paper.{Heading}
use Rattle.text.specs.Paper as text
use Rattle.text_back.specs.Claims.{given_back}
use Rattle.delivery.specs.Claims.{block_of}
use Rattle.collector.specs.Paper.{received_of, start}
use Rattle.collector_history.specs.Claims.{Offered, offer, answered, page_in}

-- 02 No. 3: what a sender sends: a serial number, an identifier, a total, and for each page its scheme and its text
pub record Notice : Type 0 where
  pub serial : ℕ
  pub id : ℕ
  pub total : ℕ
  pub scheme : ℕ → ℕ
  pub text : ℕ → List ℕ

-- 02 No. 3, 002 9.3.2: the header of page i: parameters 1 of n to n of n
abbrev pub heading_sent : Notice → ℕ → Heading
heading_sent x i = record { serial = x.serial; id = x.id; scheme = x.scheme i; parameter = suc i * 16 + x.total }

-- 01 Page and text: page i, written to memory p
abbrev pub page_written : Notice → List ℕ → ℕ → text.PageLeft
page_written x p i = text.written_page (heading_sent x i) (x.text i) p

-- 01 Blocks: the four blocks of page i, cut by way of memory o
abbrev pub blocks_of : Notice → List ℕ → List ℕ → ℕ → List (List ℕ)
blocks_of x p o i = each (block_of (written_blocks (page_written x p i).page block.page (page_written x p i).used o).output) 4

-- 01 Intake: the pages that a board in state h is handed while pieces come, each with the octets received
unfoldable pub heard : block.Held → List (List ℕ) → List Offered
heard h [] = []
heard h (q ∷ qs) =
    let g : block.Given = block.step h q in
    cond (eqb g.number 0) (offer g.octets g.received ∷ heard g.next qs) (heard g.next qs)

-- a page of the notice on the channel, with the pieces between it and the one before
pub record Sending : Type 0 where
  pub between : List (List ℕ)
  pub page : ℕ

-- all pieces, in order
unfoldable pub on_air : Notice → List ℕ → List ℕ → List Sending → List (List ℕ)
on_air x p o [] = []
on_air x p o (t ∷ ts) = (t.between ++ blocks_of x p o t.page) ++ on_air x p o ts

-- the pieces between complete no page, on a board that is in state h before all of them
abbrev pub Quiet : Notice → List ℕ → List ℕ → block.Held → List Sending → Type 0
Quiet x p o h [] = Unit {0}
Quiet x p o h (t ∷ ts) = (heard h t.between ≡ []) × Quiet x p o (pieces.after h (t.between ++ blocks_of x p o t.page)) ts

-- page i is one of some pages
abbrev pub is_one : ℕ → List ℕ → Bool
is_one i is = some (λ (j : ℕ). eqb j i) is

-- 02 No. 3: in whatever order they come: page k comes last, and before it the others, in any order and as often as may be
pub record Order (n : ℕ) (is : List ℕ) (k : ℕ) : Type 0 where
  pub last : k < n
  pub others : (i : ℕ) → (is_one i is ≡ true) ↔ ((i < n) × (i ≡ k → ⊥))

abbrev pub numbers_sent : List Sending → List ℕ
numbers_sent ts = map (λ (t : Sending). t.page) ts

-- 02 No. 3: the notice x is collected on a board in state h where it is sent as ts and then t: the collector is given the pages that the board is handed, and u is what texts are read into
pub record Collected (x : Notice) (p o u : List ℕ) (h : block.Held) (ts : List Sending) (t : Sending) : Type 0 where
  -- the page that the last sending completes
  pub one : Offered
  pub completes : heard h (on_air x p o (ts ++ (t ∷ []))) ≡ heard h (on_air x p o ts) ++ (one ∷ [])
  -- no page before it hands a message out
  pub waits : (older : List Offered) (g : Offered) (newer : List Offered) → heard h (on_air x p o ts) ≡ older ++ (g ∷ newer) → (answered older g).number ≡ 1
  -- it does, with all pages, and the collector is as at start
  pub done : (answered (heard h (on_air x p o ts)) one).number ≡ 0
  pub pages : (answered (heard h (on_air x p o ts)) one).pages ≡ x.total
  pub next : (answered (heard h (on_air x p o ts)) one).next ≡ start
  -- and each page is read as the text that was written
  pub reads : (i : ℕ) → i < x.total
      → text.reading (page_in (answered (heard h (on_air x p o ts)) one).message i) (received_of (answered (heard h (on_air x p o ts)) one).message i) u
      ≡ given_back (x.text i)

-- 00, 02 No. 3: texts of up to 15 pages, written, cut into blocks, taken in by a board that was started, and collected from a start in any order, with other pieces between them, are read back page by page
abbrev pub MessageOverTheAir : Type 0
MessageOverTheAir =
    (x : Notice) (p o u : List ℕ) (ps : List (List ℕ)) (ts : List Sending) (t : Sending) → x.total ≤ 15 → Order x.total (numbers_sent ts) t.page
    → Quiet x p o (pieces.after block.start ps) (ts ++ (t ∷ [])) → ((i : ℕ) → i < x.total → (page_written x p i).number ≡ 0) → length o ≡ 92 → length u ≡ 93
    → Collected x p o u (pieces.after block.start ps) ts t

-- a notice of two pages, A and B
abbrev pub two_pages : Notice
two_pages = record { serial = 0x1230; id = 0x32; total = 2; scheme = λ i. 1; text = λ i. cond (eqb i 0) (0x41 ∷ []) (0x42 ∷ []) }

-- 000 3.4: a null block
abbrev pub null_block : List ℕ
null_block = 0x2f ∷ replicate 22 0x2b

-- page 2 comes, page 2 once more, a null block, page 1
abbrev pub two_sent : List Sending
two_sent = record { between = []; page = 1 } ∷ record { between = []; page = 1 } ∷ []

abbrev pub two_last : Sending
two_last = record { between = null_block ∷ []; page = 0 }

-- 02 No. 3: they are collected
abbrev pub TwoPages : Type 0
TwoPages = (p o u : List ℕ) → length p ≡ 88 → length o ≡ 92 → length u ≡ 93 → Collected two_pages p o u block.start two_sent two_last
