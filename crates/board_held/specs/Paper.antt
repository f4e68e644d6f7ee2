-- The set of slots held, and the slot that a page is entered under, as document 01 has them. Slots go by their numbers here, from 1.
use Rattle.std.specs.Prelude.{Bool, cond, not, ◌&&◌, List, ℕ, ◌+◌, ◌-◌, ◌/◌, ◌%◌, ◌^◌, eqb, leb}
use Rattle.schedule.specs.Paper.{Told, first, again, optional, advised, tells, end, read}

-- 01 Decision: a set of slots held, as a number: slot n is held where bit n - 1 is set; numbers beyond 48 mean nothing
unfoldable pub is_held : ℕ → ℕ → Bool
is_held h n = (leb 1 n && leb n 48) && eqb (h / 2 ^ (n - 1) % 2) 1

-- 01 Decision: the set with a slot entered
unfoldable pub enter : ℕ → ℕ → ℕ
enter h n = cond ((leb 1 n && leb n 48) && not (is_held h n)) (h + 2 ^ (n - 1)) h

-- 01 Decision: a schedule that may be absent: whether there is one, its octets and how many of them are received
pub record Schedule : Type 0 where
  pub known : Bool
  pub message : List ℕ
  pub received : ℕ

-- 01 Decision: the schedule tells of a slot: there is one, it isn't refused, and the slot is 1 to End
unfoldable pub tells_of : Schedule → ℕ → Bool
tells_of s n = s.known && (eqb (read s.message s.received).number 0 && (leb 1 n && leb n (end s.message)))

-- 01 Decision: where a page got at slot n is entered by what is told of the slot: from a repeat under its first's slot, otherwise its own
abbrev pub entry_for : ℕ → Told → ℕ
entry_for n (first x) = n
entry_for n (again k) = k
entry_for n optional = n
entry_for n advised = n

-- 01 Decision: the slot that a page got at slot n is entered under; its own where the schedule tells nothing of it
unfoldable pub entered_under : Schedule → ℕ → ℕ
entered_under s n = cond (tells_of s n) (entry_for n (tells s.message (n - 1))) n
