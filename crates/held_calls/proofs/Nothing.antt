-- A number that is no slot's enters nothing.
use Rattle.laws.proofs.Base.{◌≡◌, refl, ap, ◌∙◌, Bool, true, false, ◌&&◌, List, ◌⊎◌, inl, inr, ⊎_elim, ℕ, ◌≤◌, ◌<◌, arith, eqb, leb, eqb-true, le-leb, lt-leb}
use Rattle.schedule.specs.Paper.{end, read}
use Rattle.board_held.specs.Paper.{enter, tells_of}
use Rattle.board_held.specs.Coded.{lent_schedule}
use Rattle.board_held.proofs.Cases.{entered_untold}
use Rattle.board_held.proofs.Sets.{enter_low, enter_high}
use Rattle.board_held.proofs.Telling.{is_read}
use Rattle.held_calls.specs.Paper.{enter_call}

module _ (known : Bool) (m : List ℕ) (received slot : ℕ) where
  -- no schedule tells of it
  untold : (slot < 1) ⊎ (48 < slot) → tells_of (lent_schedule known m received) slot ≡ false
  unfolding tells_of
  untold o = go known (eqb (read m received).number 0) refl
    where
      outside : (read m received).number ≡ 0 → (slot < 1) ⊎ (48 < slot) → (leb 1 slot && leb slot (end m)) ≡ false
      outside z (inl l) = rw (lt-leb 1 slot l)
      outside z (inr l) =
          let past : end m < slot = omega (arith, (is_read m received z).last) in
          let some : 1 ≤ slot = omega arith in
          rw (le-leb 1 slot some, lt-leb slot (end m) past)

      go : (k g : Bool) → eqb (read m received).number 0 ≡ g → (k && (g && (leb 1 slot && leb slot (end m)))) ≡ false
      go false g e = refl
      go true false e = refl
      go true true e = outside (eqb-true (read m received).number 0 e) o

  pub enters_nothing : (held : ℕ) → (slot < 1) ⊎ (48 < slot) → enter_call known m received slot held ≡ held
  enters_nothing held o =
      ap (enter held) (entered_untold (lent_schedule known m received) slot (untold o)) ∙ ⊎_elim (λ l. enter_low held slot l) (λ l. enter_high held slot l) o
