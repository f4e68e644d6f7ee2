-- Whether a schedule tells of a slot, and where a page is entered, case by case.
use Rattle.laws.proofs.Base.{◌≡◌, true, false, ℕ, ◌-◌}
use Rattle.schedule.specs.Paper.{tells}
use Rattle.board_held.specs.Paper.{Schedule, tells_of, entry_for, entered_under}

module _ (s : Schedule) (n : ℕ) where
  pub entered_untold : tells_of s n ≡ false → entered_under s n ≡ n
  unfolding entered_under
  entered_untold e = rw e

  pub entered_told : tells_of s n ≡ true → entered_under s n ≡ entry_for n (tells s.message (n - 1))
  unfolding entered_under
  entered_told e = rw e

  pub tells_unknown : s.known ≡ false → tells_of s n ≡ false
  unfolding tells_of
  tells_unknown e = rw e
