-- Every slot up to End of a message that is read is given exactly once.
use Rattle.laws.proofs.Base.{◌≡◌, refl, sym, ap, ◌∙◌, Bool, true, false, ℕ, suc, arith, ltb, lt-ltb, ltb-true}
use Rattle.schedule.specs.Paper.{end, rank, slot_of, Shown, shown, next, no_more, given_at}
use Rattle.schedule.proofs.Answers.{read_gives}
use Rattle.schedule_order.specs.Claims.{GivenOnce}
use Rattle.schedule_order.proofs.Ranks.{order_rank, rank_below, rank_order}

pub given_once : GivenOnce
given_once m received i e l =
    record {
      at = read_gives m received e (rank m i) ∙ rw (lt-ltb (rank m i) (end m) (rank_below m i l), order_rank m i l);
      only = λ k s q. go k s (sym (read_gives m received e k) ∙ q) (ltb k (end m)) refl;
    }
  where
    go : (k : ℕ) (s : Shown) → given_at m k ≡ next (suc i) s → (b : Bool) → ltb k (end m) ≡ b → k ≡ rank m i
    go k s q true h =
        let mine : next (suc (slot_of m k)) (shown m (slot_of m k)) ≡ next (suc i) s = rw h at q in
        let same : suc (slot_of m k) ≡ suc i = cc in
        let slot : slot_of m k ≡ i = omega arith in
        sym (rank_order m k (ltb-true k (end m) h)) ∙ ap (rank m) slot
    go k s q false h =
        let none : no_more ≡ next (suc i) s = rw h at q in
        let z : ◌≡◌ {A = ℕ} 0 1 = cc in
        absurd (omega arith)
