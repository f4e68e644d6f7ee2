-- Pages given one after the other to a started collector: the statements on messages of several pages, on lists of pages and over C calls.
use Rattle.std.specs.Prelude.{◌≡◌, Bool, true, cond, not, ◌&&◌, List, [], ◌∷◌, ◌++◌, map, ◌↔◌, ◌⊎◌, ℕ, zero, suc, ◌*◌, ◌/◌, ◌%◌, ◌≤◌, ◌<◌, length, take, drop, replicate, eqb}
use Rattle.laws.specs.Ruled.{ruled}
use Rattle.laws.specs.Search.{some}
use Rattle.laws.specs.Upto.{some_below}
use Rattle.page.specs.Paper.{header}
use Rattle.calls.specs.Claims.{TakenApart}
use Rattle.collector.specs.Paper.{page_number, page_total, page_place, total, received_of, proper, blank_page, blanks, start, Taken, page_faults, taken, collected, CollectLeft, start_call, collect_call}

-- 02 No. 3: a page as it is given: its octets, and the octets received of it
pub record Offered : Type 0 where
  pub page : List ℕ
  pub received : ℕ

-- 02 No. 3: its number, and the total of its message
abbrev pub its_number : Offered → ℕ
its_number g = page_number g.page

abbrev pub its_total : Offered → ℕ
its_total g = page_total g.page

-- 02 No. 3: what refuses a page by itself, 16, 18 or 50; 0 where nothing does
unfoldable pub refused_by : Offered → ℕ
refused_by g = ruled (λ (m : ℕ). m) (page_faults g.page g.received) 0

-- 02 No. 3: pages of one message, told by message identifier and serial number, and with one total
unfoldable pub same_message : Offered → Offered → Bool
same_message a b =
    eqb (its_total a) (its_total b)
    && (eqb (header a.page).serial (header b.page).serial && eqb (header a.page).id (header b.page).id)

-- 02 No. 3: pages that came, and a new one: of another message, or with another total, it drops those and begins
unfoldable pub with_new : List Offered → Offered → List Offered
with_new [] g = g ∷ []
with_new (a ∷ s) g = cond (same_message a g) ((a ∷ s) ++ (g ∷ [])) (g ∷ [])

-- 02 No. 3: page i, counted from 0, is among those that came
abbrev pub came : List Offered → ℕ → Bool
came s i = some (λ (a : Offered). eqb (its_number a) (suc i)) s

-- 02 No. 3: each page of a total is
abbrev pub all_came : List Offered → ℕ → Bool
all_came s t = not (some_below (λ (i : ℕ). not (came s i)) t)

-- 02 No. 3: a page given after s: refused it doesn't count; with the last one that was missing all are handed out
abbrev pub counting : List Offered → Offered → List Offered
counting s g = cond (eqb (refused_by g) 0) (cond (all_came (with_new s g) (its_total g)) [] (with_new s g)) s

-- 02 No. 3: the pages not refused that came since the last start, hand-out or drop, the page that caused the drop included
unfoldable pub since_then : List Offered → List Offered → List Offered
since_then s [] = s
since_then s (g ∷ gs) = since_then (counting s g) gs

abbrev pub since : List Offered → List Offered
since gs = since_then [] gs

-- 02 No. 3: those up to and with a page that is not refused
abbrev pub since_with : List Offered → Offered → List Offered
since_with gs g = with_new (since gs) g

-- 02 No. 3: what the first page that came with a number is handed out as: the octets received of it, and its octets; as at start where none came
unfoldable pub first_of : List Offered → ℕ → List ℕ
first_of [] k = blank_page
first_of (a ∷ s) k = cond (eqb (its_number a) k) (a.received ∷ a.page) (first_of s k)

-- 02 No. 3: in page order, n pages from page i on, counted from 0
unfoldable pub pages_from : List Offered → ℕ → ℕ → List ℕ
pages_from s i zero = []
pages_from s i (suc n) = first_of s (suc i) ++ pages_from s (suc i) n

-- DECISIONS, The collector's memory: pages of one message as they are laid out: total, serial number and identifier, and 15 pages
unfoldable pub laid : List Offered → List ℕ
laid [] = start
laid (a ∷ s) = its_total a ∷ (take 4 a.page ++ pages_from (a ∷ s) 0 15)

-- what pages given in order leave of a collector
unfoldable pub after : List ℕ → List Offered → List ℕ
after c [] = c
after c (g ∷ gs) = after (taken c g.page g.received).next gs

-- 02 No. 3: the answer to a page after others, from a start
abbrev pub answered : List Offered → Offered → Taken
answered gs g = taken (after start gs) g.page g.received

-- 02 No. 3: a page with number k is among s
pub record Came (s : List Offered) (k : ℕ) : Type 0 where
  pub older : List Offered
  pub one : Offered
  pub newer : List Offered
  pub split : s ≡ older ++ (one ∷ newer)
  pub numbered : its_number one ≡ k

-- 02 No. 3: page g is not refused, and each page of its message has come since the last start, hand-out or drop, g itself and the page that caused the drop included
pub record Whole (gs : List Offered) (g : Offered) : Type 0 where
  pub taken : refused_by g ≡ 0
  pub each : (k : ℕ) → 1 ≤ k → k ≤ its_total g → Came (since_with gs g) k

-- 02 No. 3: a message is handed out exactly then
abbrev pub MessageExactly : Type 0
MessageExactly = (gs : List Offered) (g : Offered) → ((answered gs g).number ≡ 0) ↔ Whole gs g

-- 02 No. 3: and then its pages are the first that came with each number, and the collector is as at start
abbrev pub MessageGives : Type 0
MessageGives =
    (gs : List Offered) (g : Offered) → Whole gs g
    → answered gs g ≡ record { number = 0; pages = its_total g; next = start; message = laid (since_with gs g) }

-- 02 No. 3: any other page that is not refused is kept or passed over
abbrev pub MessageKeeps : Type 0
MessageKeeps =
    (gs : List Offered) (g : Offered) → refused_by g ≡ 0 → (Whole gs g → ⊥)
    → answered gs g ≡ record { number = 1; pages = 0; next = laid (since_with gs g); message = [] }

-- 02 No. 3: a refused page leaves the collector unchanged
abbrev pub MessageRefuses : Type 0
MessageRefuses =
    (gs : List Offered) (g : Offered) → (refused_by g ≡ 0 → ⊥)
    → answered gs g ≡ record { number = refused_by g; pages = 0; next = after start gs; message = [] }

-- 02 No. 3: a page makes its message whole or it doesn't
abbrev pub WholeDecided : Type 0
WholeDecided = (gs : List Offered) (g : Offered) → Whole gs g ⊎ (Whole gs g → ⊥)

-- 02 No. 3: at any time a collector holds the pages that came since the last start, hand-out or drop, and no others
abbrev pub CollectorHolds : Type 0
CollectorHolds = (gs : List Offered) → after start gs ≡ laid (since gs)

-- 02 No. 3: which pages came since the last start, hand-out or drop goes by what the collector answered
pub record SinceFollows : Type 0 where
  pub start : since [] ≡ []
  -- none after a hand-out
  pub hand_out : (gs : List Offered) (g : Offered) → (answered gs g).number ≡ 0 → since (gs ++ (g ∷ [])) ≡ []
  -- a page that is kept is among them, with those that it doesn't drop
  pub kept : (gs : List Offered) (g : Offered) → (answered gs g).number ≡ 1 → since (gs ++ (g ∷ [])) ≡ since_with gs g
  -- a refused one is not
  pub refused : (gs : List Offered) (g : Offered) → (refused_by g ≡ 0 → ⊥) → since (gs ++ (g ∷ [])) ≡ since gs
  -- and all are of one message
  pub one_message : (gs : List Offered) (a : Offered) (s older : List Offered) (b : Offered) (newer : List Offered) → since gs ≡ a ∷ s → s ≡ older ++ (b ∷ newer)
      → same_message a b ≡ true

-- 02 No. 3: a collector is proper after a start, whatever pages are given to it
abbrev pub CollectorProper : Type 0
CollectorProper = (gs : List Offered) → proper (after start gs) ≡ true

-- a call of the collector: on the memory as the call before left it, or on memory that is not 1,340 octets
pub data Call : Type 0 where
  on : (page : List ℕ) (received : ℕ) (output : List ℕ) → Call
  off : (memory : List ℕ) → (length memory ≡ 1340 → ⊥) → (page : List ℕ) (received : ℕ) (output : List ℕ) → Call

-- what a call leaves of the collector; one on other memory leaves that memory, too, as it was
abbrev pub after_call : List ℕ → Call → List ℕ
after_call c (on p n o) = (collect_call c p n o).collector
after_call c (off m w p n o) = c

-- what calls in order leave of the collector
unfoldable pub after_calls : List ℕ → List Call → List ℕ
after_calls c [] = c
after_calls c (x ∷ xs) = after_calls (after_call c x) xs

-- the page that a call gives
abbrev pub offer : List ℕ → ℕ → Offered
offer p n = record { page = p; received = n }

-- 01 Intake, DECISIONS, The collector's memory: the pages given by calls: one refused by 15, or by 8 for the length, gives none
unfoldable pub counted : List Call → List Offered
counted [] = []
counted (on p n o ∷ xs) = cond (eqb (length o) 1340) (offer p n ∷ counted xs) (counted xs)
counted (off m w p n o ∷ xs) = counted xs

-- a call after a start call on memory m and further calls
abbrev pub call_after : List ℕ → List Call → List ℕ → ℕ → List ℕ → CollectLeft
call_after m xs p n o = collect_call (after_calls (start_call m).collector xs) p n o

-- DECISIONS, Several numbers in one: number and pages handed out come out of what a call returns, whatever it is given
abbrev pub UnpackedCollect : Type 0
UnpackedCollect = (c p : List ℕ) (n : ℕ) (o : List ℕ) → TakenApart (collect_call c p n o).returned (collected c p n o).number (collected c p n o).pages

-- 02 No. 3, for C: what every call after a start on 1,340 octets returns and leaves, by the pages that were given
pub record LentMessages : Type 0 where
  -- a message is handed out exactly when each of its pages has come
  pub exactly : (m : List ℕ) (xs : List Call) (p : List ℕ) (n : ℕ) (o : List ℕ) → length m ≡ 1340 → length o ≡ 1340
      → ((call_after m xs p n o).returned % 256 ≡ 0) ↔ Whole (counted xs) (offer p n)
  -- and then it is made of those pages
  pub gives : (m : List ℕ) (xs : List Call) (p : List ℕ) (n : ℕ) (o : List ℕ) → length m ≡ 1340 → length o ≡ 1340 → Whole (counted xs) (offer p n)
      → call_after m xs p n o ≡ record { returned = 256 * page_total p; collector = start; output = laid (since_with (counted xs) (offer p n)) }
  -- any other page that is not refused is kept or passed over
  pub keeps : (m : List ℕ) (xs : List Call) (p : List ℕ) (n : ℕ) (o : List ℕ) → length m ≡ 1340 → length o ≡ 1340
      → refused_by (offer p n) ≡ 0 → (Whole (counted xs) (offer p n) → ⊥)
      → call_after m xs p n o ≡ record { returned = 1; collector = laid (since_with (counted xs) (offer p n)); output = o }
  -- a refused page changes nothing
  pub refuses : (m : List ℕ) (xs : List Call) (p : List ℕ) (n : ℕ) (o : List ℕ) → length m ≡ 1340 → length o ≡ 1340
      → (refused_by (offer p n) ≡ 0 → ⊥)
      → call_after m xs p n o ≡ record { returned = refused_by (offer p n); collector = after_calls (start_call m).collector xs; output = o }
  -- and each page makes its message whole or it doesn't
  pub decided : (xs : List Call) (p : List ℕ) (n : ℕ) → Whole (counted xs) (offer p n) ⊎ (Whole (counted xs) (offer p n) → ⊥)
  -- 8 never comes
  pub proper : (m : List ℕ) (xs : List Call) (p : List ℕ) (n : ℕ) (o : List ℕ) → length m ≡ 1340 → (call_after m xs p n o).returned % 256 ≡ 8 → ⊥
  -- calls that give no page change nothing
  pub uncounted_15 : (m : List ℕ) (xs : List Call) (p : List ℕ) (n : ℕ) (o : List ℕ) → length m ≡ 1340 → (length o ≡ 1340 → ⊥)
      → call_after m xs p n o ≡ record { returned = 15; collector = after_calls (start_call m).collector xs; output = o }
  pub uncounted_8 : (c p : List ℕ) (n : ℕ) (o : List ℕ) → (length c ≡ 1340 → ⊥) → collect_call c p n o ≡ record { returned = 8; collector = c; output = o }

-- DECISIONS, The collector's memory: page i of a message handed out, counted from 0
abbrev pub page_in : List ℕ → ℕ → List ℕ
page_in o i = take 88 (drop (suc (page_place i)) o)

-- 00, the first version's fault: page i of a message o handed out is a page that was given, of the message that o tells, and with that number
pub record OfMessage (gs : List Offered) (o : List ℕ) (i : ℕ) : Type 0 where
  pub serial : (header (page_in o i)).serial ≡ (header (drop 1 o)).serial
  pub id : (header (page_in o i)).id ≡ (header (drop 1 o)).id
  pub totals : page_total (page_in o i) ≡ total o
  pub numbered : page_number (page_in o i) ≡ suc i
  pub older : List Offered
  pub newer : List Offered
  pub came : gs ≡ older ++ (offer (page_in o i) (received_of o i) ∷ newer)

-- 02 No. 3: what a call hands out, of the pages gs that were given: so many pages as it tells, each of the one message
pub record Unmixed (gs : List Offered) (l : CollectLeft) : Type 0 where
  pub pages : total l.output ≡ l.returned / 256
  pub each : (i : ℕ) → i < l.returned / 256 → OfMessage gs l.output i

-- 00, the first version's fault: no page of one message is ever handed out with those of another, whatever memory was started and whatever calls came
abbrev pub NeverMixes : Type 0
NeverMixes =
    (m : List ℕ) (xs : List Call) (p : List ℕ) (n : ℕ) (o : List ℕ) → (call_after m xs p n o).returned % 256 ≡ 0
    → Unmixed (counted xs ++ (offer p n ∷ [])) (call_after m xs p n o)

-- a page of a message of three, by its parameter, what fills it, and the octets received of it
abbrev pub page_of_three : ℕ → ℕ → ℕ → Offered
page_of_three parameter filling n = offer (0x12 ∷ 0x34 ∷ 0x00 ∷ 0x32 ∷ 0x01 ∷ parameter ∷ replicate 82 filling) n

-- pages 3 and 1 of 3, then a page over its total, then page 3 once more with other octets
abbrev pub three_before : List Offered
three_before = page_of_three 0x33 0xc3 22 ∷ page_of_three 0x13 0xc1 88 ∷ page_of_three 0x43 0xc4 88 ∷ page_of_three 0x33 0xcf 66 ∷ []

-- page 2 of 3
abbrev pub three_last : Offered
three_last = page_of_three 0x23 0xc2 44

-- a page of 88 octets received, by its header
abbrev pub with_header : List ℕ → Offered
with_header h = offer (h ++ replicate 82 0xc2) 88

-- pages that differ from page 2 of 3 in one thing: serial number, identifier, total; and pages 1 of 1 by parameters 11, 00, 05 and 50
abbrev pub three_others : List Offered
three_others =
    with_header (0x12 ∷ 0x35 ∷ 0x00 ∷ 0x32 ∷ 0x01 ∷ 0x23 ∷ []) ∷ with_header (0x12 ∷ 0x34 ∷ 0x00 ∷ 0x33 ∷ 0x01 ∷ 0x23 ∷ [])
    ∷ with_header (0x12 ∷ 0x34 ∷ 0x00 ∷ 0x32 ∷ 0x01 ∷ 0x24 ∷ []) ∷ with_header (0x12 ∷ 0x34 ∷ 0x00 ∷ 0x32 ∷ 0x01 ∷ 0x11 ∷ [])
    ∷ with_header (0x12 ∷ 0x34 ∷ 0x00 ∷ 0x32 ∷ 0x01 ∷ 0x00 ∷ []) ∷ with_header (0x12 ∷ 0x34 ∷ 0x00 ∷ 0x32 ∷ 0x01 ∷ 0x05 ∷ [])
    ∷ with_header (0x12 ∷ 0x34 ∷ 0x00 ∷ 0x32 ∷ 0x01 ∷ 0x50 ∷ []) ∷ []

-- 02 No. 3: three pages that come as 3, 1, 2, with a refused page and one already held among them
pub record ThreePages : Type 0 where
  pub refused : refused_by (page_of_three 0x43 0xc4 88) ≡ 50
  -- the refused page doesn't count, and neither does it drop the others
  pub counting : since_with three_before three_last ≡ page_of_three 0x33 0xc3 22 ∷ page_of_three 0x13 0xc1 88 ∷ page_of_three 0x33 0xcf 66 ∷ three_last ∷ []
  pub whole : Whole three_before three_last
  -- what is handed out, in page order, with the earlier copy of page 3
  pub handed : answered three_before three_last
      ≡ record {
        number = 0;
        pages = 3;
        next = start;
        message = 3 ∷ 0x12 ∷ 0x34 ∷ 0x00 ∷ 0x32
            ∷ ((88 ∷ (page_of_three 0x13 0xc1 88).page) ++ ((44 ∷ three_last.page) ++ ((22 ∷ (page_of_three 0x33 0xc3 22).page) ++ blanks 12)));
      }
  -- and after that the message is collected afresh
  pub afresh : since_with (three_before ++ (three_last ∷ [])) three_last ≡ three_last ∷ []
  -- page 2 of 3 with another serial number, another identifier or another total drops the others and begins, and so does a page 1 of 1
  pub drops : map (since_with three_before) three_others ≡ map (λ (g : Offered). g ∷ []) three_others
