-- What the reader's number says of every answer that hangs on its tests.
use Rattle.laws.proofs.Base.{◌≡◌, refl, sym, ap, ◌∙◌, Bool, true, not, ◌&&◌, List, [], ◌∷◌, ⊎_elim, ℕ, ◌≤◌, length, eqb, eqb-true, eqb-false, not-true, not-false}
use Rattle.laws.specs.Ruled.{ruled}
use Rattle.laws.proofs.Outcome.{Outcome, refuses, passes, outcome}
use Rattle.laws.proofs.Ruled.{Among}
use Rattle.laws.proofs.Tests.{both}
use Rattle.schedule.specs.Paper.{end, in_bounds, head_faults, faults, Read, unread, good, read, GivenSlot, refusal, given_at, given}
use Rattle.schedule.proofs.Header.{within}

-- none of the tests has the number n, by a look at each
abbrev without : ℕ → List (Bool × ℕ) → Bool
without n [] = true
without n (t ∷ ts) = not (eqb n t.1) && without n ts

pub not_among : (n : ℕ) (ts : List (Bool × ℕ)) → without n ts ≡ true → Among n ts → ⊥
not_among n [] g a = a
not_among n (t ∷ ts) g a =
    let w = both (not (eqb n t.1)) (without n ts) g in
    ⊎_elim (eqb-false n t.1 (not-true (eqb n t.1) w.0)) (not_among n ts w.1) a

module _ (m : List ℕ) (received : ℕ) where
  -- no refusal has the number 0
  pub head_some : (n : ℕ) → Among n (head_faults m received) → n ≡ 0 → ⊥
  head_some n a z = not_among 0 (head_faults m received) refl (rw z at a)

  pub faults_some : (n : ℕ) → Among n (faults m received) → n ≡ 0 → ⊥
  faults_some n a z = not_among 0 (faults m received) refl (rw z at a)

  -- a message that is read
  pub record Sound : Type 1 where
    pub long : length m ≡ 88
    pub last : end m ≤ 48
    pub answers : (A : Type 0) (by : ℕ → A) (x : A) → ruled by (faults m received) x ≡ x

  -- every answer is that of one refusal, or the message is read
  pub data Answered : Type 1 where
    refused : (n : ℕ) → (n ≡ 0 → ⊥) → ((A : Type 0) (by : ℕ → A) (x : A) → ruled by (faults m received) x ≡ by n) → Answered
    sound : Sound → Answered

  pub answered : Answered
  answered = go (outcome (faults m received))
    where
      go : Outcome (faults m received) → Answered
      go (refuses n a h) = refused n (faults_some n a) h
      go (passes h f) =
          sound
          (record {
            long = eqb-true (length m) 88 (not-false (eqb (length m) 88) h.0);
            last = (within m (not-false (in_bounds m) h.1.1.1.0)).2;
            answers = f;
          })

  pub read_sound : (read m received).number ≡ 0 → Sound
  unfolding read
  read_sound e = go answered
    where
      go : Answered → Sound
      go (refused n s h) = absurd (s (sym (ap (λ (r : Read). r.number) (h Read unread (good m))) ∙ e))
      go (sound w) = w

  -- a message that is read gives what its places have, and one that is refused its refusal
  pub read_gives : (read m received).number ≡ 0 → (k : ℕ) → given m received k ≡ given_at m k
  unfolding given
  read_gives e k = (read_sound e).answers GivenSlot refusal (given_at m k)

  pub refused_gives : (n : ℕ) → (n ≡ 0 → ⊥) → (read m received).number ≡ n → (k : ℕ) → given m received k ≡ refusal n
  unfolding read given
  refused_gives n s e k = go answered
    where
      go : Answered → given m received k ≡ refusal n
      go (refused j t h) = h GivenSlot refusal (given_at m k) ∙ ap refusal (sym (ap (λ (r : Read). r.number) (h Read unread (good m))) ∙ e)
      go (sound w) = absurd (s (sym e ∙ ap (λ (r : Read). r.number) (w.answers Read unread (good m))))
