-- A call of the reader of descriptions: what it gives, and the place that it leaves.
use Rattle.laws.proofs.Base.{◌≡◌, sym, ap, ◌∙◌, List, ℕ, ◌+◌, ◌≤◌, ◌<◌, ◌^◌, arith, lt-ltb, le-ltb}
use Rattle.laws.proofs.Tests.{le_or_lt}
use Rattle.std.specs.Prelude.{Option, Result}
use Rattle.refusals.specs.declared.Refusal.{Refusal}
use Rattle.schedule_given.specs.declared.Numbered.{Numbered as NumberedCode}
use Rattle.schedule.specs.Paper.{end, GivenSlot, refusal, given_at, given}
use Rattle.schedule_given.specs.Coded.{given_of}
use Rattle.schedule.proofs.Answers.{Answered, answered}
use Rattle.schedule.proofs.Answers as answers
use Rattle.descriptions.specs as defs
use defs.declared.Stepped.{Stepped as SteppedCode}
use defs.Paper.{Stepped, passed, stepped, Ordered, unordered, in_order, ordered}
use defs.Coded.{stepped_of}

module _ (m : List ℕ) (received : ℕ) where
  -- every answer is that of one refusal, or the message is read
  pub data Told : Type 0 where
    refused : (n : ℕ) → ((i : ℕ) → given m received i ≡ refusal n) → ordered m received ≡ unordered n → Told
    whole : end m ≤ 48 → ((i : ℕ) → given m received i ≡ given_at m i) → ordered m received ≡ in_order m → Told

  pub told : Told
  unfolding given ordered
  told = go (answered m received)
    where
      go : Answered m received → Told
      go (answers.refused n s h) = refused n (λ i. h GivenSlot refusal (given_at m i)) (h Ordered unordered (in_order m))
      go (answers.sound w) = whole w.last (λ i. w.answers GivenSlot refusal (given_at m i)) (w.answers Ordered unordered (in_order m))

  -- a call at place k that gives g and passes n
  module _ (k : ℕ) (g : GivenSlot) (n : ℕ) (gives : g ≡ given m received k) (passes : n ≡ passed g) where
    -- a slot is given below End only, so the place past it has room
    pub step_fits : k < 2 ^ 64 → k + n < 2 ^ 64
    step_fits fits = rw (passes, gives) (go told)
      where
        go : Told → k + passed (given m received k) < 2 ^ 64
        go (refused j h o) = rw (h k) (omega arith)
        go (whole w h o) =
            rw (h k) (le_or_lt (end m) k (λ past. rw (le-ltb k (end m) past) (omega arith)) (λ within. rw (lt-ltb k (end m) within) (omega arith)))

  -- a step at place k that gave x
  module _ (k : ℕ) (t : SteppedCode) (step : stepped_of t ≡ stepped m received k) (x : Result (Option NumberedCode) Refusal) (gave : t.given ≡ x) where
    pub step_gave : given_of x ≡ given m received k
    step_gave = sym (ap given_of gave) ∙ ap (λ (s : Stepped). s.given) step

    pub step_left : t.place ≡ k + passed (given_of x)
    step_left = ap (λ (s : Stepped). s.place) step ∙ ap (λ (y : GivenSlot). k + passed y) (sym step_gave)
