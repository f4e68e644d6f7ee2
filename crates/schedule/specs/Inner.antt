-- What functions of several rooms give, in the paper's terms.
use Rattle.std.specs.Prelude.{◌≡◌, Bool, true, false, List, ℕ, ◌<◌, get_or}
use Rattle.laws.specs.Ruled.{ruled}
use Rattle.laws.specs.Upto.{count}
use Rattle.schedule.specs.declared.Description.TheVariants.{First}
use Rattle.schedule.specs.declared.Slot.{Slot}
use Rattle.schedule.specs.Paper.{Told, end, told, grouped, Read, unread, good, head_faults}

-- the answer as far as the header settles it
unfoldable pub head_read : List ℕ → ℕ → Read
head_read m received = ruled unread (head_faults m received) (good m)

-- what is told of each slot by the description at its place
abbrev pub told_by : List ℕ → List ℕ → ℕ → Told
told_by m p i = told m (get_or p i 0)

-- a slot of zeros, for what is read past the end of an array of slots, which never is
abbrev pub zeroed : Slot
zeroed = record { new = false; description = First 0 }

-- a slot up to End, with its new bit, that stands after k others of its group
pub record Picks (m : List ℕ) (b : Bool) (k i : ℕ) : Type 0 where
  pub below : i < end m
  pub passes : grouped m b i ≡ true
  pub before : count (grouped m b) i ≡ k
