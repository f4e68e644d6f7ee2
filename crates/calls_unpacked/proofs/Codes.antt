-- A repeat that is given has a code from 1 to 47.
use Rattle.laws.proofs.Base.{◌≡◌, refl, sym, ap, ◌∙◌, Bool, true, false, not, ◌&&◌, ◌||◌, true≢false, List, ℕ, suc}
use Rattle.laws.proofs.Base.{◌-◌, ◌≤◌, ◌<◌, arith, eqb, leb, ltb, eqb-false, leb-true, leb-false, ltb-true, not-false}
use Rattle.laws.specs.Upto.{some_below}
use Rattle.laws.proofs.Upto.{some_at}
use Rattle.laws.proofs.Outcome.{Outcome, refuses, passes, outcome}
use Rattle.laws.proofs.Tests.{both, neither}
use Rattle.schedule.specs.Paper.{begin, end, in_bounds, tells, again, is_first, false_in, false_repeat, faults, slot_of, Shown, shown, GivenSlot, next, no_more, refusal, given_at, given}
use Rattle.schedule_order.proofs.Ranks.{order_below}
use Rattle.calls_unpacked.specs.Claims.{RepeatCode}

-- where no slot up to End has a false repeat, a slot's repeat names a slot below it
names_below : (m : List ℕ) → some_below (false_repeat (tells m)) (end m) ≡ false → (i n : ℕ) → i < end m → tells m i ≡ again n → (1 ≤ n) × (n ≤ i)
names_below m none i n l e = go (false_repeat (tells m) i) refl
  where
    go : (b : Bool) → false_repeat (tells m) i ≡ b → (1 ≤ n) × (n ≤ i)
    go true h = absurd (true≢false (sym (some_at (false_repeat (tells m)) (end m) i l h) ∙ none))
    go false h =
        let parts = neither (eqb n 0) (leb (suc i) n || not (is_first (tells m (n - 1)))) (sym (ap (false_in (tells m) i) e) ∙ h) in
        let low = leb-false (suc i) n (neither (leb (suc i) n) (not (is_first (tells m (n - 1)))) parts.1).0 in
        let positive = eqb-false n 0 parts.0 in
        (omega arith, omega arith)

pub repeat_code : RepeatCode
unfolding given
repeat_code m received k i n s g t = go (outcome (faults m received))
  where
    at : given_at m k ≡ next i s → some_below (false_repeat (tells m)) (end m) ≡ false → end m ≤ 48 → (b : Bool) → ltb k (end m) ≡ b → (1 ≤ n) × (n ≤ 47)
    at q none few true h =
        let mine : next (suc (slot_of m k)) (shown m (slot_of m k)) ≡ next i s = rw h at q in
        let same : shown m (slot_of m k) ≡ s = cc in
        let inside = order_below m k (ltb-true k (end m) h) in
        let w = names_below m none (slot_of m k) n inside (ap (λ (x : Shown). x.told) same ∙ t) in
        (w.0, omega (arith, w.1, inside, few))
    at q none few false h =
        let more : no_more ≡ next i s = rw h at q in
        let z : ◌≡◌ {A = ℕ} 0 1 = cc in
        absurd (omega arith)

    go : Outcome (faults m received) → (1 ≤ n) × (n ≤ 47)
    go (refuses j a f) =
        let refused : refusal j ≡ next i s = sym (f GivenSlot refusal (given_at m k)) ∙ g in
        let z : ◌≡◌ {A = ℕ} 0 1 = cc in
        absurd (omega arith)
    go (passes h f) =
        let range = both (leb 1 (begin m)) (leb (begin m) (end m) && leb (end m) 48) (not-false (in_bounds m) h.1.1.1.0) in
        let few = leb-true (end m) 48 (both (leb (begin m) (end m)) (leb (end m) 48) range.1).1 in
        at (sym (f GivenSlot refusal (given_at m k)) ∙ g) h.1.1.1.1.1.1.0 few (ltb k (end m)) refl
