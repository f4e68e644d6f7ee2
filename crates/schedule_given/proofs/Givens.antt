-- The reader of descriptions, told from the reader with all places.
use Rattle.laws.proofs.Base.{◌≡◌, sym, ap, ◌∙◌, List, ℕ, ◌+◌, ◌≤◌, ◌<◌, add-one, arith, lt-ltb, le-ltb}
use Rattle.refusals.specs.Number.{number_of}
use Rattle.refusals.proofs.Inverse.{number_of_positive}
use Rattle.refusals.specs.declared.Refusal.{Refusal}
use Rattle.schedule.specs.Paper.{end, new, Shown, shown, slot_of, Read, unread, next, no_more, refusal, given}
use Rattle.schedule.specs.Inner.{told_by}
use Rattle.schedule.proofs.Answers.{read_gives, refused_gives}
use Rattle.schedule_places.specs.Inner.{Placed, placed}
use Rattle.schedule_places.proofs.Known.{read_placed, Good, told_at}

module _ (m : List ℕ) (received : ℕ) (x : Placed) (q : x ≡ placed m received) (k : ℕ) where
  -- over a refused message each place gives the refusal
  pub given_refused : (r : Refusal) → x.read ≡ unread (number_of r) → refusal (number_of r) ≡ given m received k
  given_refused r e =
      let number = ap (λ (y : Read). y.number) (sym (ap (λ (l : Placed). l.read) q ∙ read_placed m received) ∙ e) in
      sym (refused_gives m received (number_of r) (number_of_positive r) number k)

  module _ (e : ℕ) (g : Good m received x q e) where
    pub given_none : e ≤ k → no_more ≡ given m received k
    given_none l =
        let far : end m ≤ k = omega (arith, g.ends) in
        sym (read_gives m received g.reads k ∙ rw (le-ltb k (end m) far))

    pub given_next : (s : Shown) (i : ℕ) → k < e → i ≡ slot_of m k → i < e → s ≡ record { new = new m i; told = told_by m x.places i }
        → next (i + 1) s ≡ given m received k
    given_next s i l o w p =
        let near : k < end m = omega (arith, g.ends) in
        let same : s ≡ shown m i = p ∙ (λ j. record { new = new m i; told = told_at m received x q e g i w j }) in
        rw (same, add-one, o) (sym (read_gives m received g.reads k ∙ rw (lt-ltb k (end m) near)))
