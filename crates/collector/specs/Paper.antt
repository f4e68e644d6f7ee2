-- Messages of several pages as document 02 has them: a collector in lent memory, and what a page leaves of it. Pages are counted from 0 here: page i has number i + 1.
use Rattle.std.specs.Prelude.{Bool, cond, not, ◌&&◌, ◌||◌, List, [], ◌∷◌, ◌++◌, ℕ, zero, suc, ◌+◌, ◌*◌, ◌-◌, ◌/◌, ◌%◌, length, take, drop, get_or, replicate, eqb, leb, ltb}
use Rattle.laws.specs.Ruled.{ruled}
use Rattle.laws.specs.Upto.{some_below}
use Rattle.sizes.specs.Paper.{whole_blocks}
use Rattle.page.specs.Paper.{header, parameter_read, handing}
use Rattle.calls.specs.Paper.{in_one}

-- 02 No. 3, No. 2's reading: the number of a page, and the total of its message
unfoldable pub page_number : List ℕ → ℕ
page_number p = parameter_read (header p).parameter / 16

unfoldable pub page_total : List ℕ → ℕ
page_total p = parameter_read (header p).parameter % 16

-- DECISIONS, The collector's memory: the total, four octets of serial number and identifier, then 89 octets for each of 15 pages: where page i starts
abbrev pub page_place : ℕ → ℕ
page_place i = 5 + 89 * i

-- 02 No. 3: the total of the pages that are collected, 0 where there are none
abbrev pub total : List ℕ → ℕ
total c = get_or c 0 0

-- 02 No. 3: the octets received of page i, 0 where it is not held
abbrev pub received_of : List ℕ → ℕ → ℕ
received_of c i = get_or c (page_place i) 0

-- 02 No. 3: page i is missing, or held
abbrev pub missing : List ℕ → ℕ → Bool
missing c i = eqb (received_of c i) 0

abbrev pub held : List ℕ → ℕ → Bool
held c i = not (missing c i)

-- 02 No. 3: a page is held that is past the total, or with other octets received than 22, 44, 66 or 88
abbrev pub wrong : List ℕ → ℕ → Bool
wrong c i = held c i && not (ltb i (total c) && whole_blocks (received_of c i))

-- 02 No. 3: a collector is empty, or holds some, not all, pages of a total from 1 to 15, and no page is wrong
unfoldable pub proper : List ℕ → Bool
proper c =
    not (some_below (wrong c) 15)
    && (eqb (total c) 0 || (leb (total c) 15 && (some_below (held c) (total c) && some_below (missing c) (total c))))

-- DECISIONS, The collector's memory: a page that is not held: 0 received, 88 octets of 2B
abbrev pub blank_page : List ℕ
blank_page = 0 ∷ replicate 88 0x2b

-- n of them
unfoldable pub blanks : ℕ → List ℕ
blanks zero = []
blanks (suc n) = blank_page ++ blanks n

-- DECISIONS, The collector's memory: at start total, serial number and identifier are 0, and no page is held
unfoldable pub start : List ℕ
start = replicate 5 0 ++ blanks 15

-- 02 No. 3: a message that begins with page p, before that is put in: its total, serial number and identifier, and no page
abbrev pub begun : List ℕ → List ℕ
begun p = page_total p ∷ (take 4 p ++ blanks 15)

-- 02 No. 3: page p is of the message that is collected: total, serial number and identifier are equal
unfoldable pub is_of : List ℕ → List ℕ → Bool
is_of c p =
    eqb (total c) (page_total p)
    && (eqb (header (drop 1 c)).serial (header p).serial && eqb (header (drop 1 c)).id (header p).id)

-- 02 No. 3: what a page goes on with: what is held if it is of that message; otherwise that is dropped, and the page begins
abbrev pub goes_on : List ℕ → List ℕ → List ℕ
goes_on c p = cond (is_of c p) c (begun p)

-- 02 No. 3: page i with its n octets received and its 88 octets, at its place
abbrev pub put : List ℕ → ℕ → List ℕ → ℕ → List ℕ
put c i p n = take (page_place i) c ++ ((n ∷ p) ++ drop (page_place (suc i)) c)

-- 02 No. 3: a page already held is passed over and the earlier copy stays
abbrev pub with_page : List ℕ → List ℕ → ℕ → List ℕ
with_page c p n = cond (held c (page_number p - 1)) c (put c (page_number p - 1) p n)

-- 02 No. 3: all pages of the message are there
abbrev pub is_whole : List ℕ → Bool
is_whole c = not (some_below (missing c) (total c))

-- 02 No. 3: the message handed out, in page order; DECISIONS, The collector's memory: pages past the total are as at start
abbrev pub whole_message : List ℕ → List ℕ
whole_message c = take (page_place (total c)) c ++ blanks (15 - total c)

-- what a page leaves: number, pages handed out, the collector, and the message handed out, [] where there is none
pub record Taken : Type 0 where
  pub number : ℕ
  pub pages : ℕ
  pub next : List ℕ
  pub message : List ℕ

-- 02 No. 3: a collector with a new page: whole it is handed out and as at start, otherwise it goes on
abbrev pub settled : List ℕ → Taken
settled c =
    cond (is_whole c)
    (record { number = 0; pages = total c; next = start; message = whole_message c })
    (record { number = 1; pages = 0; next = c; message = [] })

-- 02 No. 3: what refuses a page by itself: 16 and 18 as at the handing back, and after them 50
abbrev pub page_faults : List ℕ → ℕ → List (Bool × ℕ)
page_faults p n = handing p n ++ ((ltb (page_total p) (page_number p), 50) ∷ [])

-- 02 No. 3: a refused page leaves the collector as it is
abbrev pub untaken : List ℕ → ℕ → Taken
untaken c m = record { number = m; pages = 0; next = c; message = [] }

-- 02 No. 3: page p with n octets received, given to a proper collector
unfoldable pub taken : List ℕ → List ℕ → ℕ → Taken
taken c p n = ruled (untaken c) (page_faults p n) (settled (with_page (goes_on c p) p n))

-- what a call leaves: number, pages handed out, the lent collector, the lent output
pub record Left : Type 0 where
  pub number : ℕ
  pub pages : ℕ
  pub collector : List ℕ
  pub output : List ℕ

-- 01 Intake, DECISIONS, The collector's memory: the output is untouched unless a message is handed out
abbrev pub moved : Taken → List ℕ → Left
moved t o =
    record {
      number = t.number;
      pages = t.pages;
      collector = t.next;
      output = cond (eqb t.number 0) t.message o;
    }

-- what a refused call leaves, with memory c for the collector
abbrev pub refused_left : List ℕ → List ℕ → ℕ → Left
refused_left c o m = record { number = m; pages = 0; collector = c; output = o }

-- 02 No. 3: 8 first of all, and an improper collector becomes as at start; DECISIONS, The collector's memory: for another length nothing changes, and 15 comes next
unfoldable pub collected : List ℕ → List ℕ → ℕ → List ℕ → Left
collected c p n o =
    ruled (refused_left c o) ((not (eqb (length c) 1340), 8) ∷ [])
    (ruled (refused_left start o) ((not (proper c), 8) ∷ [])
    (ruled (refused_left c o) ((not (eqb (length o) 1340), 15) ∷ []) (moved (taken c p n) o)))

-- what a start call leaves: its number, and the lent collector
pub record Started : Type 0 where
  pub number : ℕ
  pub collector : List ℕ

-- 01 Intake, DECISIONS, The collector's memory: the start call refuses only a collector of another length
unfoldable pub start_call : List ℕ → Started
start_call c =
    ruled (λ (m : ℕ). record { number = m; collector = c }) ((not (eqb (length c) 1340), 8) ∷ [])
    (record { number = 0; collector = start })

-- what a collect call leaves: the number returned, the lent collector, the lent output
pub record CollectLeft : Type 0 where
  pub returned : ℕ
  pub collector : List ℕ
  pub output : List ℕ

-- DECISIONS, Several numbers in one: number + 256 × pages handed out
abbrev pub in_call : Left → CollectLeft
in_call l = record { returned = in_one l.number l.pages; collector = l.collector; output = l.output }

-- 02 No. 3: the call for C
abbrev pub collect_call : List ℕ → List ℕ → ℕ → List ℕ → CollectLeft
collect_call c p n o = in_call (collected c p n o)
