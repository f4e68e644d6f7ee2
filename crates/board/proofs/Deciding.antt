-- Whether a slot is read, by way of the places of the descriptions.
use Rattle.laws.proofs.Base.{◌≡◌, refl, sym, ap, ◌∙◌, Bool, true, false, List, ℕ, ◌-◌, ◌≤◌, ◌<◌, arith}
use Rattle.schedule.specs.Paper.{Told, first, again, optional, advised, false_repeat, end, tells}
use Rattle.schedule_places.specs.Inner.{Placed, placed}
use Rattle.schedule.specs.Inner.{told_by}
use Rattle.board_held.specs.Inner.{answers}
use Rattle.board_held.specs.Coded.{lent_schedule}
use Rattle.board_held.proofs.Sets.{Slot}
use Rattle.board_held.proofs.Telling.{telling, tells_by, named}
use Rattle.board.specs as defs
use defs.Paper.{Wanted, reads_for, decide}
use Rattle.board.proofs.Cases.{reads_told, decided_as}

-- descriptions that agree up to slot e are read for alike
pub reads_agree : (t u : ℕ → Told) (w : Wanted) (h e i : ℕ) → ((j : ℕ) → j < e → t j ≡ u j) → i < e → false_repeat t i ≡ false → reads_for t w h (t i) ≡ reads_for u w h (u i)
reads_agree t u w h e i same l f = go (t i) refl ∙ ap (reads_for u w h) (same i l)
  where
    go : (d : Told) → t i ≡ d → reads_for t w h d ≡ reads_for u w h d
    go (first x) q = refl
    go (again n) q =
        let low = named t i n q f in
        let inside : n - 1 < e = omega (arith, low.low) in
        rw (same (n - 1) inside)
    go optional q = refl
    go advised q = refl

-- the decision by way of the places, where there is a schedule: r is whether the board reads
pub decided_slots : (known : Bool) (m : List ℕ) (received n : ℕ) (t : Placed) (q : t ≡ placed m received) → known ≡ true → answers (t.read) n ≡ true
    → (w : Wanted) (h : ℕ) (r b : Bool) → Slot n → w.count ≤ 64 → r ≡ reads_for (told_by m t.places) w h (told_by m t.places (n - 1)) → r ≡ b
    → record { number = 0; read = b } ≡ decide (lent_schedule known m received) n w h
decided_slots known m received n t q k e w h r b i few p d =
    let s = lent_schedule known m received in
    let g = telling m received n t q e in
    decided_as s n w h i b few
    (reads_told s n w h (tells_by m received n t q known true k e)
    ∙ sym (reads_agree (told_by m t.places) (tells m) w h (end m) (n - 1) g.shows g.below g.repeats)
    ∙ sym p
    ∙ d)
