-- A message that is handed out is 88 octets long, and whole blocks of it were received.
use Rattle.laws.proofs.Base.{◌≡◌, refl, sym, ◌∙◌, Bool, true, not, List, ◌∷◌, ℕ, suc, ◌*◌, ◌≤◌, arith, length}
use Rattle.laws.proofs.Base.{length-append, length-take, length-drop, length-replicate, eqb-true, ne_eqb, not-false}
use Rattle.laws.proofs.Tests.{true_or_false}
use Rattle.sizes.specs.Paper.{whole_blocks}
use Rattle.sizes.proofs.Received.{whole_times, whole_bounds}
use Rattle.laws.proofs.Ruled.{Other, others, unrefused}
use Rattle.block.specs.Paper.{Kind, page, schedule, Held, Given, proper, refusal, code, follows, faults, last, begun, added, made, handed, step}
use Rattle.block.proofs.Steps.{Proper, proper_facts}
use Rattle.block_history.specs.Claims.{completes}
use Rattle.block_history.proofs.Joins.{number_of}
use Rattle.block_history.proofs.History.{not_completes}
use Rattle.logs.specs.Inner.{Answers}
use Rattle.logs.proofs.Listed.{Taken}

-- a message complete
pub record Complete (g : Given) : Type 0 where
  pub blocks : whole_blocks g.received ≡ true
  pub long : length g.octets ≡ 88

-- a message with one block more is 88 octets long
long_added : (h : Held) (p : List ℕ) → h.taken ≤ 3 → 22 * h.taken ≤ length h.octets → length p ≡ 23 → length (added h p).octets ≡ 88
long_added h p few room whole = simp (length-append, length-replicate, length-take, length-drop) (omega arith)

complete_added : (h : Held) (p : List ℕ) → h.taken ≤ 3 → 22 * h.taken ≤ length h.octets → length p ≡ 23 → Complete (handed (added h p))
complete_added h p few room whole = record { blocks = whole_times (suc h.taken) (omega arith) (omega arith); long = long_added h p few room whole }

complete_made : (h : Held) (p : List ℕ) → Proper h → length p ≡ 23 → Complete (handed (made h p))
complete_made h p f w =
    true_or_false (follows (code p))
    (λ e. rw e (complete_added h p f.room (omega (arith, f.long, f.room)) w))
    (λ e. rw e (complete_added (begun (code p)) p (omega arith) (omega arith) w))

-- what refuses a piece
abbrev tests : Held → List ℕ → List (Bool × ℕ)
tests h p = (not (proper h), 8) ∷ faults h.taken p

-- no refusal has the number of a message complete
uncompleting : (k : Kind) (h : Held) (p : List ℕ) → Other (completes k) (tests h p)
uncompleting page h p = others 0 (tests h p) refl
uncompleting schedule h p = others 7 (tests h p) refl

-- the answer that completes a message hands it out
pub complete : (k : Kind) (h : Held) (p : List ℕ) → (step h p).number ≡ completes k → Complete (step h p)
unfolding step
complete k h p z =
    let w = unrefused (λ (g : Given). g.number) refusal (λ n. refl) (tests h p) _ (completes k) (uncompleting k h p) z in
    true_or_false (last p (made h p).taken)
    (λ e. rw (w.1, e) (complete_made h p (proper_facts h (not-false _ w.0.0)) (eqb-true (length p) 23 (not-false _ w.0.1.0))))
    (λ e. absurd (not_completes k 1 (omega arith) (omega arith) (sym (number_of w.1 ∙ rw e) ∙ z)))

-- what an intake call leaves are the parts of its answer; a message complete is in the output
pub answers : (h : Held) (p : List ℕ) {returned : ℕ} {s m m' : List ℕ} → Taken (step h p) returned s m m' → Answers (step h p) returned m'
answers h p {returned} {s} {m} {m'} t =
    record {
      number = t.answer;
      received = t.received;
      complete = λ k e.
          let g = step h p in
          let w = complete k h p e in
          let some : g.received ≡ 0 → ⊥ = λ z. omega (arith, whole_bounds g.received w.blocks) in
          let output : m' ≡ g.octets = t.output ∙ rw (ne_eqb g.received 0 some) in
          record { output = output; blocks = w.blocks };
    }
