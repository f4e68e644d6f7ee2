-- Demand 2 over C calls: each state in lent memory is the one that the counted pieces leave, and nothing from before the start is in it.
use Rattle.laws.proofs.Base.{◌≡◌, refl, sym, ap, ◌∙◌, List, [], ◌∷◌, ◌++◌, append_assoc, append-nil, ℕ, ◌*◌, ◌%◌, arith, length, eqb, eq-eqb, ne_eqb, eqb-true, eqb-false}
use Rattle.laws.proofs.Tests.{true_or_false}
use Rattle.calls.proofs.Packed.{apart}
use Rattle.block.specs.Paper.{Kind, Given, start, step}
use Rattle.block_history.specs.Claims.{completes, refused_by, after, answered}
use Rattle.block_history.proofs.History.{standing, standing_proper, after_append, number_small, not_completes, complete_exactly, complete_gives, taken_gives, goes_on_decided, refused_gives}
use Rattle.block.proofs.Steps.{proper_facts}
use Rattle.firmware.specs as defs
use defs.Paper.{IntakeLeft, Started, lent, held_in, moved, start_call, intake_call}
use defs.Claims.{Call, on, off, after_calls, counted, call_after, LentHistory, NeverFinishesLeftovers}
use Rattle.firmware.proofs.Lent.{refused_over}

-- memory that holds what pieces leave is 90 octets long
length_lent : (ps : List (List ℕ)) → length (lent (after start ps)) ≡ 90
length_lent ps = omega (arith, (proper_facts (after start ps) (standing_proper (standing ps))).long)

-- a call with the right lengths does what the intake does
pub right : (s p o : List ℕ) → length s ≡ 90 → length o ≡ 88 → intake_call s p o ≡ moved (step (held_in s) p) o
unfolding intake_call
right s p o long size = simp (eq-eqb _ _ size, eq-eqb _ _ long)

-- equal calls leave equal states and return equal numbers
state_of : {x y : IntakeLeft} → x ≡ y → x.state ≡ y.state
state_of e = ap (λ (x : IntakeLeft). x.state) e

returned_of : {x y : IntakeLeft} → x ≡ y → x.returned ≡ y.returned
returned_of e = ap (λ (x : IntakeLeft). x.returned) e

-- calls that do not count change nothing
uncounted_15 : (s p o : List ℕ) → (length o ≡ 88 → ⊥) → intake_call s p o ≡ record { returned = 15; state = s; output = o }
unfolding intake_call
uncounted_15 s p o w = rw (ne_eqb (length o) 88 w)

uncounted_8 : (s p o : List ℕ) → length o ≡ 88 → (length s ≡ 90 → ⊥) → intake_call s p o ≡ record { returned = 8; state = s; output = o }
unfolding intake_call
uncounted_8 s p o size w = rw (eq-eqb (length o) 88 size, ne_eqb (length s) 90 w)

after_one : (ps : List (List ℕ)) (p : List ℕ) → after start (ps ++ (p ∷ [])) ≡ (step (after start ps) p).next
unfolding after
after_one ps p = after_append start ps (p ∷ [])

-- lent memory follows the pieces that count
lent_after : (ps : List (List ℕ)) (cs : List Call) → after_calls (lent (after start ps)) cs ≡ lent (after start (ps ++ counted cs))
unfolding after_calls counted
lent_after ps [] = rw (append-nil ps)
lent_after ps (off m w p o ∷ cs) = lent_after ps cs
lent_after ps (on p o ∷ cs) =
    true_or_false (eqb (length o) 88)
    (λ e.
    let state = state_of (right (lent (after start ps)) p o (length_lent ps) (eqb-true (length o) 88 e)) in
    rw (state, e, ← after_one ps p, ← append_assoc ps (p ∷ []) (counted cs)) (lent_after (ps ++ (p ∷ [])) cs))
    (λ e. rw (state_of (uncounted_15 (lent (after start ps)) p o (eqb-false (length o) 88 e)), e) (lent_after ps cs))

-- a start call on 90 octets leaves a started state
started : (m : List ℕ) → length m ≡ 90 → start_call m ≡ record { number = 0; state = lent start }
unfolding start_call
started m long = rw (eq-eqb (length m) 90 long)

-- a call in the history is answered as the piece is after those that counted
called_answered : (m : List ℕ) (cs : List Call) (p o : List ℕ) → length m ≡ 90 → length o ≡ 88 → call_after m cs p o ≡ moved (answered (counted cs) p) o
unfolding after
called_answered m cs p o long size =
    rw (started m long, lent_after [] cs) (right (lent (after start (counted cs))) p o (length_lent (counted cs)) size)

pub lent_history : LentHistory
lent_history =
    record {
      exactly = λ m cs p o k long size.
          let g = answered (counted cs) p in
          let small = number_small (after start (counted cs)) p in
          let number = ap (λ n. n % 256) (returned_of (called_answered m cs p o long size)) ∙ (apart g.number g.received (omega arith)).0 in (
            λ e. (complete_exactly k (counted cs) p).0 (sym number ∙ e),
            λ x. number ∙ (complete_exactly k (counted cs) p).1 x,
          );
      gives = λ m cs p o k r long size l run.
          called_answered m cs p o long size
          ∙ ap (λ (g : Given). moved g o) (complete_gives k (counted cs) p r l run)
          ∙ (let some = run.some in rw (ne_eqb (22 * length r) 0 (omega arith)));
      takes = λ m cs p o k u long size l un.
          called_answered m cs p o long size ∙ ap (λ (g : Given). moved g o) (taken_gives k (counted cs) p u l un);
      refuses = λ m cs p o long size none.
          called_answered m cs p o long size
          ∙ ap (λ (g : Given). moved g o) (refused_gives (counted cs) p none)
          ∙ sym (refused_over (refused_by p) (refused_by p) (lent start) o refl refl);
      decided = λ cs p. goes_on_decided (counted cs) p;
      uncounted_15 = uncounted_15;
      uncounted_8 = uncounted_8;
    }

-- memory that is not 90 octets is never started, and no call changes it
module _ (m : List ℕ) (short : length m ≡ 90 → ⊥) where
  not_started : (start_call m).state ≡ m
  unfolding start_call
  not_started = rw (ne_eqb (length m) 90 short)

  call_leaves : (p o : List ℕ) → (intake_call m p o).state ≡ m
  call_leaves p o =
      true_or_false (eqb (length o) 88)
      (λ e. state_of (uncounted_8 m p o (eqb-true (length o) 88 e) short))
      (λ e. state_of (uncounted_15 m p o (eqb-false (length o) 88 e)))

  calls_leave : (cs : List Call) → after_calls m cs ≡ m
  unfolding after_calls
  calls_leave [] = refl
  calls_leave (off n w p o ∷ cs) = calls_leave cs
  calls_leave (on p o ∷ cs) = rw (call_leaves p o) (calls_leave cs)

-- a call that completes a message has lengths that count
right_lengths : (m : List ℕ) (cs : List Call) (p o : List ℕ) (k : Kind) → (call_after m cs p o).returned % 256 ≡ completes k → (length m ≡ 90) × (length o ≡ 88)
right_lengths m cs p o k e =
    true_or_false (eqb (length o) 88)
    (λ eo. true_or_false (eqb (length m) 90)
    (λ em. (eqb-true (length m) 90 em, eqb-true (length o) 88 eo))
    (λ em.
    let short = eqb-false (length m) 90 em in
    let state : after_calls (start_call m).state cs ≡ m = rw (not_started m short) (calls_leave m short cs) in
    let left = returned_of (uncounted_8 m p o (eqb-true (length o) 88 eo) short) in
    absurd (not_completes k 8 (omega arith) (omega arith) (rw (state, left) at e))))
    (λ eo.
    let left = returned_of (uncounted_15 (after_calls (start_call m).state cs) p o (eqb-false (length o) 88 eo)) in
    absurd (not_completes k 15 (omega arith) (omega arith) (rw left at e)))

same_start : (m n : List ℕ) → length m ≡ 90 → length n ≡ 90 → start_call m ≡ start_call n
same_start m n a b = started m a ∙ sym (started n b)

pub never_finishes_leftovers : NeverFinishesLeftovers
never_finishes_leftovers =
    record {
      starts_alike = same_start;
      calls_alike = λ m n cs p o a b. ap (λ (x : Started). intake_call (after_calls x.state cs) p o) (same_start m n a b);
      run_behind = λ m cs p o k e.
          let lengths = right_lengths m cs p o k e in
          let run = (lent_history.exactly m cs p o k lengths.0 lengths.1).0 e in
          (run.0, run.1, run.2, lent_history.gives m cs p o k run.0 lengths.0 lengths.1 run.1 run.2);
    }
