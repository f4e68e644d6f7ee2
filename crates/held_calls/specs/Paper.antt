-- The call for C that enters a page into the set of slots held.
use Rattle.std.specs.Prelude.{Bool, List, ℕ}
use Rattle.board_held.specs.Paper.{enter, entered_under}
use Rattle.board_held.specs.Coded.{lent_schedule}

-- 01 Decision: the set with the page got at a slot entered, beside a schedule message that is known or not; a page got from a repeat is entered under its first's slot
abbrev pub enter_call : Bool → List ℕ → ℕ → ℕ → ℕ → ℕ
enter_call known m received slot held = enter held (entered_under (lent_schedule known m received) slot)
