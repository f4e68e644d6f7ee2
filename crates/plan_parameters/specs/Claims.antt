-- What is promised of page parameters in plans: writer and checker take one with a zero half for 11, by value and from files.
use Rattle.std.specs.Prelude.{◌≡◌, cond, List, [], ◌∷◌, ◌++◌, map, ℕ, ◌+◌, ◌*◌, eqb, replicate}
use Rattle.page.specs.Paper.{parameter_read}
use Rattle.plan.specs.Paper.{Entry, Plan, entries_within}
use Rattle.plan_read.specs.Paper.{read_plan, file_of}
use Rattle.sender_message.specs.Paper.{padded}
use Rattle.sender.specs.Paper.{write_schedule}
use Rattle.checker.specs.Paper.{check}
use Rattle.calls.specs.Paper.{CallLeft}
use Rattle.plan_calls.specs.Paper.{write_schedule_call, check_schedule_call}

-- 02 No. 2: an entry with its page parameter as a receiver reads it
abbrev pub parameter_as_read : Entry → Entry
parameter_as_read e = record { kind = e.kind; serial = e.serial; id = e.id; parameter = parameter_read e.parameter }

-- 02 No. 2: the same of an entry with a page; in one without, 11 would be a stray octet
abbrev pub entry_as_read : Entry → Entry
entry_as_read e = cond (eqb e.kind 2) (parameter_as_read e) e

-- 02 No. 2: a plan of such entries
abbrev pub plan_as_read : Plan → Plan
plan_as_read p = record { count = p.count; entries = map entry_as_read p.entries }

-- 02 No. 2: of any plans the writer writes what it writes of them with every page's parameter as it is read
abbrev pub WrittenAsRead : Type 0
WrittenAsRead = (c p : Plan) (b : ℕ) (o : List ℕ) → write_schedule c p b o ≡ write_schedule (plan_as_read c) (plan_as_read p) b o

-- 02 No. 2: and the checker answers to every message what it answers beside those
abbrev pub CheckedAsRead : Type 0
CheckedAsRead = (c p : Plan) (m : List ℕ) (received : ℕ) → check c p m received ≡ check (plan_as_read c) (plan_as_read p) m received

-- 02 No. 2: a page with serial number 0010, identifier 8001 and some parameter
abbrev pub page_with : ℕ → Entry
page_with x = record { kind = 2; serial = 0x0010; id = 0x8001; parameter = x }

-- 02 No. 2: what a call returns, and the memory that it leaves
abbrev pub both_of : CallLeft → List ℕ
both_of w = w.returned ∷ w.memory

-- 02 No. 2: what cb_write_schedule gives for files of pages with these parameters
abbrev pub written_with : List ℕ → List ℕ → List ℕ
written_with xs ys = both_of (write_schedule_call (file_of (map page_with xs)) (file_of (map page_with ys)) 1 (replicate 88 0))

-- 02 No. 2: what cb_check_schedule returns for a message beside such files
abbrev pub checked_with : List ℕ → List ℕ → List ℕ → List ℕ
checked_with xs ys m = check_schedule_call (file_of (map page_with xs)) (file_of (map page_with ys)) m 88 ∷ []

-- 01 Schedule message: Begin 1, End 2, an octet of new bits and some descriptions
abbrev pub telling : ℕ → List ℕ → List ℕ
telling new told = padded (0x01 ∷ 0x02 ∷ new ∷ replicate 5 0 ++ told)

-- 02 No. 2: slot 1 a first transmission, slot 2 a repeat of it; or slot 2 one too
abbrev pub one_and_repeat : List ℕ
one_and_repeat = 0x80 ∷ 0x01 ∷ 0x01 ∷ []

abbrev pub two_firsts : List ℕ
two_firsts = 0x80 ∷ 0x01 ∷ 0x80 ∷ 0x01 ∷ []

-- 02 No. 2: for each case, what the definitions give and what the request says
abbrev pub cases : List (List ℕ × List ℕ)
cases =
    -- a plan with parameters 00 and then 11 has one page and a repeat, and so has one with 11 and then 00
    (written_with (0x00 ∷ 0x11 ∷ []) [], 256 * 11 ∷ telling 0xc0 one_and_repeat)
    ∷ (written_with (0x11 ∷ 0x00 ∷ []) [], 256 * 11 ∷ telling 0xc0 one_and_repeat)
    -- 0 in either half is enough
    ∷ (written_with (0x0f ∷ 0xf0 ∷ []) [], 256 * 11 ∷ telling 0xc0 one_and_repeat)
    -- with either of them in the previous plan the new bits are 0
    ∷ (written_with (0x00 ∷ 0x11 ∷ []) (0x00 ∷ []), 256 * 11 ∷ telling 0x00 one_and_repeat)
    ∷ (written_with (0x00 ∷ 0x11 ∷ []) (0x11 ∷ []), 256 * 11 ∷ telling 0x00 one_and_repeat)
    -- 21 and 12 stay other pages, in the plan and in the previous one
    ∷ (written_with (0x00 ∷ 0x21 ∷ []) [], 256 * 12 ∷ telling 0xc0 two_firsts)
    ∷ (written_with (0x00 ∷ 0x12 ∷ []) [], 256 * 12 ∷ telling 0xc0 two_firsts)
    ∷ (written_with (0x00 ∷ 0x11 ∷ []) (0x21 ∷ []), 256 * 11 ∷ telling 0xc0 one_and_repeat)
    -- the checker accepts the repeat, and neither a second first transmission nor a page told as new that the previous plan has
    ∷ (checked_with (0x00 ∷ 0x11 ∷ []) [] (telling 0xc0 one_and_repeat), 0 ∷ [])
    ∷ (checked_with (0x00 ∷ 0x11 ∷ []) [] (telling 0xc0 two_firsts), (40 + 256 * 2) ∷ [])
    ∷ (checked_with (0x00 ∷ 0x11 ∷ []) (0x11 ∷ []) (telling 0x00 one_and_repeat), 0 ∷ [])
    ∷ (checked_with (0x00 ∷ 0x11 ∷ []) (0x11 ∷ []) (telling 0xc0 one_and_repeat), (40 + 256 * 1) ∷ [])
    -- the plan keeps the octets as they were sent
    ∷ (map (λ (e : Entry). e.parameter) (entries_within (read_plan (file_of (map page_with (0x00 ∷ 0x11 ∷ [])))).plan), 0x00 ∷ 0x11 ∷ [])
    ∷ []

-- 02 No. 2: every case is as the request says
abbrev pub ZeroIsOnePage : Type 0
ZeroIsOnePage = map (λ (x : List ℕ × List ℕ). x.0) cases ≡ map (λ (x : List ℕ × List ℕ). x.1) cases
