-- The entry that the checker names is the lowest bad one.
use Rattle.laws.proofs.Base.{◌≡◌, refl, sym, subst, Bool, true, false, cond, not, ◌||◌, List, [], ◌∷◌, ℕ, eqb, eqb-true, eqb-false}
use Rattle.laws.specs.Ruled.{unless0}
use Rattle.laws.specs.Upto.{lowest}
use Rattle.laws.proofs.Ruled.{Ruling, refuses, passes, ruling, ruled_passes}
use Rattle.laws.proofs.Tests.{true_or_false}
use Rattle.schedule.specs.Paper as message
use Rattle.plan.specs.Paper.{Plan, plans_number, plans_entry}
use Rattle.plan.proofs.Plans.{plans_refuse, plans_pass, plans_unnamed}
use Rattle.plan.proofs.Named.{not_naming, names_lowest_of_two}
use Rattle.checker.specs as defs
use defs.Paper.{Checked, unchecked, refused_at, untrue_at, untrue, verdict, check}
use defs.Claims.{SlotNamed, CheckerNamesLowestBad}

-- a number that names no entry
abbrev other : ℕ → Bool
other n = not (eqb n 36 || eqb n 37)

module _ (c p : Plan) (m : List ℕ) (received : ℕ) where
  reader_other : other (message.read m received).number ≡ true
  unfolding message.read
  reader_other = ruled_passes other (λ (r : message.Read). r.number) message.unread (message.faults m received) (message.good m) (λ n. refl) refl refl

  verdict_other : other (verdict c p m).number ≡ true
  verdict_other = go (eqb (message.end m) c.count) (eqb (lowest (untrue c p m) c.count) 0)
    where
      go : (s t : Bool)
          → other (cond s (cond t (unchecked 0) (untrue_at (lowest (untrue c p m) c.count))) (untrue_at 0)).number ≡ true
      go true true = refl
      go true false = refl
      go false t = refl

  by : ℕ → Checked
  by n = refused_at (plans_entry c p) n

  -- past the plans no number names an entry
  past_other : plans_number c p ≡ 0 → other (check c p m received).number ≡ true
  unfolding check by
  past_other z =
      rw (plans_pass c p z Checked by _)
      (ruled_passes other (λ (k : Checked). k.number) by (unless0 (message.read m received).number ∷ []) (verdict c p m) (λ n. refl) (rw reader_other) verdict_other)

  refused : (plans_number c p ≡ 0 → ⊥) → check c p m received ≡ refused_at (plans_entry c p) (plans_number c p)
  unfolding check by
  refused k = plans_refuse c p (plans_number c p) refl k Checked by _

  -- nor does a slot come with one, but for 40
  past_slot : plans_number c p ≡ 0 → ((check c p m received).number ≡ 40 → ⊥) → (check c p m received).slot ≡ 0
  unfolding check by
  past_slot z = rw (plans_pass c p z Checked by _) (go (ruling by (unless0 (message.read m received).number ∷ []) (verdict c p m)))
    where
      told : (s t : Bool) → let k = cond s (cond t (unchecked 0) (untrue_at (lowest (untrue c p m) c.count))) (untrue_at 0) in (k.number ≡ 40 → ⊥) → k.slot ≡ 0
      told true true h = refl
      told true false h = absurd (h refl)
      told false t h = refl

      go : {k : Checked} → Ruling by (unless0 (message.read m received).number ∷ []) (verdict c p m) k → (k.number ≡ 40 → ⊥) → k.slot ≡ 0
      go (refuses n a e) = λ h. rw e (plans_unnamed c p z)
      go (passes n e) = rw e (told (eqb (message.end m) c.count) (eqb (lowest (untrue c p m) c.count) 0))

pub checker_names_lowest_bad : CheckerNamesLowestBad
checker_names_lowest_bad c p m received =
    true_or_false (eqb (plans_number c p) 0)
    (λ z.
    let good = eqb-true (plans_number c p) 0 z in
    record {
      named = λ h. absurd (not_naming _ (past_other c p m received good) h);
      unnamed = λ h n. past_slot c p m received good n;
    })
    (λ z.
    subst (SlotNamed c p) (sym (refused c p m received (eqb-false (plans_number c p) 0 z)))
    (record { named = (names_lowest_of_two c p).named; unnamed = λ h n. (names_lowest_of_two c p).unnamed h }))
