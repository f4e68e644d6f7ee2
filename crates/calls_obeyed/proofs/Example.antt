-- C calls at work, by computation: two plan files, the message written from them, and the board's decisions.
use Rattle.laws.proofs.Base.{◌≡◌, refl, true, List, [], ◌∷◌, ◌++◌, map, ℕ, ◌*◌, lit<, lit≤, replicate}
use Rattle.sizes.specs.Paper.{whole_blocks}
use Rattle.laws.specs.Search.{some, first_from}
use Rattle.laws.specs.Upto as upto
use Rattle.page.specs.Paper.{same_page}
use Rattle.plan.specs.Paper.{bad, plan_number}
use Rattle.plan_read.specs.Paper.{entry_in, entries_in, read_plan}
use Rattle.plan_slots.specs.Paper.{holds, lowest_slot, has_page, lowest_at}
use Rattle.schedule.specs.Paper.{new, place, tells, read}
use Rattle.sender_message.specs.Paper as told
use Rattle.sender.specs.Paper as sender
use Rattle.checker.specs.Paper.{check, is_true}
use Rattle.board.specs.Paper.{is_wanted, reads, decide}
use Rattle.board.specs.Coded.{lent_wanted}
use Rattle.board_held.specs.Paper.{is_held, tells_of}
use Rattle.plan_calls.specs.Paper.{write_schedule_call}
use Rattle.board_calls.specs.Paper.{decide_call}
use Rattle.board_obeyed.specs.Claims.{WantedPage}
use Rattle.calls_obeyed.specs.Claims.{plan_in, ObeysCalls}

-- 01 Where the edges are: a plan file of two slots, both serial number 0010, identifier 8001, parameter 11; and one of no slots
abbrev current : List ℕ
current = 0x43 ∷ 0x42 ∷ 0x50 ∷ 0 ∷ 1 ∷ 2 ∷ 2 ∷ 0 ∷ 0x10 ∷ 0x80 ∷ 1 ∷ 0x11 ∷ 2 ∷ 0 ∷ 0x10 ∷ 0x80 ∷ 1 ∷ 0x11 ∷ []

abbrev previous : List ℕ
previous = 0x43 ∷ 0x42 ∷ 0x50 ∷ 0 ∷ 1 ∷ 0 ∷ []

-- 01 Where the edges are: the message, 11 octets and then 2B
abbrev message : List ℕ
message = (1 ∷ 2 ∷ 0xc0 ∷ 0 ∷ 0 ∷ 0 ∷ 0 ∷ 0 ∷ 0x80 ∷ 1 ∷ 1 ∷ []) ++ replicate 77 0x2b

pub written : write_schedule_call current previous 1 (replicate 88 0) ≡ record { returned = 256 * 11; memory = message }
unfolding read_plan entries_in entry_in plan_number bad some sender.write sender.planned_told sender.new_at
    told.descriptions told.octets_of_all told.new_bits told.used_part told.padded upto.picked upto.each has_page lowest_slot holds same_page first_from
written = refl

-- what the theorems on decisions rest on is met, with one block received and identifier 0001 wanted
pub obeys : ObeysCalls current previous message 22 (1 ∷ [])
unfolding read_plan entries_in entry_in check plan_number bad some read upto.some_below upto.count upto.lowest new place tells is_true has_page lowest_slot holds same_page first_from whole_blocks
obeys = record { accepted = refl; few = lit≤ tt }

-- slot 1 is the lowest of a page whose identifier 8001 matches in 15 bits
pub first_wanted : WantedPage (plan_in current) (lent_wanted (1 ∷ [])) 0
unfolding read_plan entries_in entry_in bad some is_wanted
first_wanted = record { below = lit< tt; page = refl; wanted = refl }

pub first_lowest : lowest_at (plan_in current) 0 ≡ 1
unfolding read_plan entries_in entry_in bad some lowest_slot holds same_page first_from
first_lowest = refl

-- slot 1 is read, slot 2 where slot 1 isn't held
pub decided : map (λ (x : ℕ × ℕ). decide_call true message 22 x.0 (1 ∷ []) x.1) ((1, 0) ∷ (1, 1) ∷ (2, 0) ∷ (2, 1) ∷ []) ≡ 256 ∷ 256 ∷ 256 ∷ 0 ∷ []
unfolding decide reads tells_of is_wanted is_held some read upto.some_below upto.count new place tells whole_blocks
decided = refl
