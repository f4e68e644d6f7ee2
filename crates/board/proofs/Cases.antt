-- The decision case by case, on plain facts.
use Rattle.laws.proofs.Base.{◌≡◌, sym, ◌∙◌, Bool, true, false, ℕ, ◌-◌, ◌≤◌, le-leb, le-ltb}
use Rattle.schedule.specs.Paper.{tells}
use Rattle.board_held.specs.Paper.{Schedule, tells_of}
use Rattle.board_held.proofs.Sets.{Slot}
use Rattle.board.specs.Paper.{Wanted, reads_for, reads, decide}

module _ (s : Schedule) (n : ℕ) (w : Wanted) (h : ℕ) where
  module _ (i : Slot n) where
    pub decide_reads : w.count ≤ 64 → decide s n w h ≡ record { number = 0; read = reads s n w h }
    unfolding decide
    decide_reads m = rw (le-leb 1 n i.some, le-leb n 48 i.low, le-ltb 64 w.count m)

    -- where the board reads, or skips
    pub decided_as : (b : Bool) → w.count ≤ 64 → reads s n w h ≡ b → record { number = 0; read = b } ≡ decide s n w h
    decided_as b m e = sym (decide_reads m ∙ (λ j. record { number = 0; read = e j }))

    pub decided_untold : w.count ≤ 64 → tells_of s n ≡ false → record { number = 0; read = true } ≡ decide s n w h
    unfolding reads
    decided_untold m e = decided_as true m (rw e)

  pub reads_told : tells_of s n ≡ true → reads s n w h ≡ reads_for (tells s.message) w h (tells s.message (n - 1))
  unfolding reads
  reads_told e = rw e
