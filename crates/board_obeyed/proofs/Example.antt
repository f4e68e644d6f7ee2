-- A board at work, by computation: two plans, a message that the checker accepts, and wanted lists.
use Rattle.laws.proofs.Base.{◌≡◌, refl, subst, Bool, true, false, not, List, [], ◌∷◌, ◌++◌, map, ℕ, eqb, ltb, lit<, lit≤, replicate}
use Rattle.sizes.specs.Paper.{whole_blocks}
use Rattle.laws.specs.Search.{some, first_from}
use Rattle.page.specs.Paper.{same_page}
use Rattle.plan.specs.Paper.{Entry, Plan, filled_plan, bad, plan_number}
use Rattle.plan_slots.specs.Paper.{holds, lowest_slot, has_page, page_at, lowest_at}
use Rattle.schedule.specs.Paper.{again, new, place, tells, read}
use Rattle.checker.specs.Paper.{check, is_true}
use Rattle.board.specs.Paper.{Wanted, is_wanted, reads, decide}
use Rattle.board_held.specs.Paper.{is_held, enter, tells_of, entered_under}
use Rattle.board_obeyed.specs.Claims.{obeyed, Obeys, WantedPage, WantedExactly, Board, board_after, ended, HeldTruly, Leaves, GetsIn, fresh, none_lost}
use Rattle.board_obeyed.proofs.Obeyed.{none_held_truly, period_with_losses, stays_true, reads_once}
use Rattle.laws.specs.Upto as upto

abbrev page : Entry
page = record { kind = 2; serial = 0x10; id = 0x8001; parameter = 0x11 }

abbrev other : Entry
other = record { kind = 2; serial = 0x20; id = 5; parameter = 0x11 }

-- a slot of another kind
abbrev of_kind : ℕ → Entry
of_kind k = record { kind = k; serial = 0; id = 0; parameter = 0 }

-- a page in slots 1 and 2, advised, another page, optional, the first page again
abbrev current : Plan
current = filled_plan (page ∷ page ∷ of_kind 1 ∷ other ∷ of_kind 0 ∷ page ∷ [])

-- the second page was in the plan before
abbrev previous : Plan
previous = filled_plan (other ∷ [])

-- 01 06 E4, no more new bits; first 8001, slot 2 as given, advised, repeat of slot 1; then first 0005 and optional
abbrev telling : ℕ → List ℕ
telling second = (1 ∷ 6 ∷ 0xe4 ∷ 0 ∷ 0 ∷ 0 ∷ 0 ∷ 0 ∷ 0x80 ∷ 1 ∷ second ∷ 0x41 ∷ 1 ∷ 0x80 ∷ 5 ∷ 0x40 ∷ []) ++ replicate 72 0x2b

-- slot 2 is told as a repeat of slot 1
abbrev message : List ℕ
message = telling 1

-- one identifier is wanted: 8001, or 0001
abbrev wanting : ℕ → Wanted
wanting x = record { count = 1; ids = x ∷ replicate 63 0 }

abbrev wanted : Wanted
wanted = wanting 0x8001

abbrev low : Wanted
low = wanting 1

accepted : (check current previous message 22).number ≡ 0
unfolding check plan_number bad some read upto.some_below upto.count upto.lowest new place tells is_true has_page lowest_slot holds same_page first_from whole_blocks
accepted = refl

-- what the theorems rest on is met, and so is what each asks of a slot
pub obeys : Obeys current previous message 22 wanted
obeys = record { accepted = accepted; few = lit≤ tt }

-- slot 1 is the lowest with a wanted page, and slot 2 a later one with it
pub first_wanted : WantedExactly current wanted 0
unfolding some
first_wanted = record { below = lit< tt; page = refl; wanted = refl }

pub first_lowest : lowest_at current 0 ≡ 1
unfolding lowest_slot holds same_page first_from
first_lowest = refl

pub repeat_wanted : WantedPage current wanted 1
unfolding is_wanted some
repeat_wanted = record { below = lit< tt; page = refl; wanted = refl }

pub repeat_lowest : lowest_at current 1 ≡ 1
unfolding lowest_slot holds same_page first_from
repeat_lowest = refl

-- 01 Where the edges are: wanted 0001 matches identifier 8001
pub low_wanted : WantedPage current low 0
unfolding is_wanted some
low_wanted = record { below = lit< tt; page = refl; wanted = refl }

-- the board reads or skips each of the six slots so, where nothing is held and where slot 1 is
abbrev decided : Wanted → ℕ → List Bool
decided w h = map (λ (n : ℕ). (decide (obeyed message 22) n w h).read) (1 ∷ 2 ∷ 3 ∷ 4 ∷ 5 ∷ 6 ∷ [])

pub decided_empty : decided wanted 0 ≡ true ∷ true ∷ true ∷ false ∷ false ∷ true ∷ []
unfolding decide reads tells_of is_wanted is_held some read upto.some_below upto.count new place tells whole_blocks
decided_empty = refl

pub decided_held : decided wanted (enter 0 1) ≡ true ∷ false ∷ true ∷ false ∷ false ∷ false ∷ []
unfolding decide reads tells_of is_wanted is_held enter some read upto.some_below upto.count new place tells whole_blocks
decided_held = refl

-- 01 Where the edges are: wanted 0001 reads the slot of identifier 8001
pub low_reads : decide (obeyed message 22) 1 low 0 ≡ record { number = 0; read = true }
unfolding decide reads tells_of is_wanted is_held some read upto.some_below upto.count new place tells whole_blocks
low_reads = refl

-- at the end of the period the board has the one wanted page, got once
pub ended_whole : ended current message 22 wanted none_lost fresh ≡ record { held = 1; got = page_at current 0 ∷ [] }
unfolding board_after decide reads tells_of entered_under enter is_wanted is_held some read upto.some_below upto.count new place tells whole_blocks
ended_whole = refl

-- a board that joins after slot 1 gets the page from the repeat in slot 2, and enters it under slot 1
abbrev late : ℕ → Bool
late i = ltb i 1

abbrev joined : Board
joined = record { held = 1; got = page_at current 1 ∷ [] }

pub ended_late : ended current message 22 wanted late fresh ≡ joined
unfolding board_after decide reads tells_of entered_under enter is_wanted is_held some read upto.some_below upto.count new place tells whole_blocks
ended_late = refl

gets_late : GetsIn current message 22 wanted late fresh 1
unfolding board_after decide reads tells_of is_wanted is_held some read upto.some_below upto.count new place tells whole_blocks
gets_late = record { page = refl; named = refl; heard = refl; reads = refl }

told_again : tells message 5 ≡ again (lowest_at current 1)
unfolding new place tells upto.count lowest_slot holds same_page first_from
told_again = refl

-- so it skips the repeat in slot 6
pub skips_late : decide (obeyed message 22) 6 wanted (board_after current message 22 wanted late fresh 5).held ≡ record { number = 0; read = false }
skips_late = reads_once current previous message 22 wanted obeys late fresh 1 5 gets_late (lit< tt) (lit< tt) told_again

-- what it ends with is true of it, so that a period may begin with it
pub joined_truly : HeldTruly current joined
joined_truly = subst (HeldTruly current) ended_late (stays_true current previous message 22 wanted obeys late fresh (none_held_truly current fresh refl))

pub leaves_joined : Leaves current message 22 wanted late joined 1
leaves_joined = period_with_losses current previous message 22 wanted obeys late joined joined_truly 1 repeat_wanted refl

-- slot 2 told as advised: the board that hears it alone gets the page there, but enters it under slot 2 and doesn't hold slot 1
abbrev advising : List ℕ
advising = telling 0x41

pub advising_accepted : (check current previous advising 22).number ≡ 0
unfolding check plan_number bad some read upto.some_below upto.count upto.lowest new place tells is_true has_page lowest_slot holds same_page first_from whole_blocks
advising_accepted = refl

pub ended_advised : ended current advising 22 wanted (λ (i : ℕ). not (eqb i 1)) fresh ≡ record { held = 2; got = page_at current 1 ∷ [] }
unfolding board_after decide reads tells_of entered_under enter is_wanted is_held some read upto.some_below upto.count new place tells whole_blocks
ended_advised = refl
