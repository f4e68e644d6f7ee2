-- The cases of `step`: what it is for an improper state, and for a proper one by the place of the piece.
use Rattle.laws.proofs.Base.{◌≡◌, refl, sym, ap, ◌∙◌, Bool, true, false, cond, false≢true, ◌&&◌, List, [], ℕ, suc, ◌*◌, ◌-◌}
use Rattle.laws.proofs.Base.{◌≤◌, arith, length, drop, replicate, length-drop, eqb, leb, lit≤, eqb-true, leb-true, not-false}
use Rattle.std.specs.Prelude.{Result, Ok, Err}
use Rattle.refusals.specs.declared.Refusal.{Refusal}
use Rattle.refusals.specs.Number.{number_of}
use Rattle.laws.specs.Ruled.{ruled}
use Rattle.laws.proofs.Ruled.{ruled_map, ruling, Ruling, refuses, passes}
use Rattle.laws.proofs.Tests.{true_or_false, both}
use Rattle.block.specs as defs
use defs.Paper.{page, schedule, kind_number, Held, Given, proper, refusal, code, follows, faults, last, made, added, step, blank}
use defs.declared.Place.{Place as PlaceCode}
use defs.declared.Place.TheVariants.{First, Next}
use defs.Coded.{placed}
use defs.Inner.{Place, none, first, next, place_of, state_with, outcome, Adds}
use Rattle.block.proofs.Blank.{all_blank_is}

pub step_improper : (h : Held) (p : List ℕ) → proper h ≡ false → step h p ≡ refusal 8
unfolding step
step_improper h p e = rw e

-- the answer that a place means for a piece and a proper state
abbrev pub met : Held → List ℕ → Place → Given
met h p (none n) = refusal n
met h p (first k l) = outcome l (added (state_with (kind_number k) 0 []) p)
met h p (next l) = outcome l (added h p)

-- where nothing refuses, the place gives the answer of the paper
met_passed : (h : Held) (p : List ℕ)
    → met h p (cond (follows (code p)) (next (last p (suc h.taken))) (first (cond (eqb (code p) 8) schedule page) (last p 1)))
    ≡ outcome (last p (made h p).taken) (made h p)
met_passed h p =
    true_or_false (follows (code p)) (λ q. rw q)
    (λ q. true_or_false (eqb (code p) 8) (λ r. rw (q, r)) (λ r. rw (q, r)))

pub step_met : (h : Held) (p : List ℕ) → proper h ≡ true → step h p ≡ met h p (place_of h.taken p)
unfolding step place_of
step_met h p e =
    let x = cond (follows (code p)) (next (last p (suc h.taken))) (first (cond (eqb (code p) 8) schedule page) (last p 1)) in
    rw e
    (ap (ruled refusal (faults h.taken p)) (sym (met_passed h p)) ∙ sym (ruled_map (met h p) none (faults h.taken p) x))

-- the answer that the place found for a piece means is the answer to it
module _ (h : Held) (p : List ℕ) (r : Result PlaceCode Refusal) (good : proper h ≡ true) (e : placed r ≡ place_of h.taken p) (g : Given) where
  step_by : (y : Place) → placed r ≡ y → g ≡ met h p y → g ≡ step h p
  step_by y q m = m ∙ sym (step_met h p good ∙ ap (met h p) (sym e ∙ q))

  pub step_refused : (n : Refusal) → r ≡ Err n → g ≡ refusal (number_of n) → g ≡ step h p
  step_refused n q m = step_by _ (ap placed q) m

  pub step_placed : (x y : PlaceCode) → r ≡ Ok x → x ≡ y → g ≡ met h p (placed (Ok y)) → g ≡ step h p
  step_placed x y q f m = step_by _ (ap placed (q ∙ ap Ok f)) m

-- a proper state leaves room for a block, and its rest is 2B
pub record Proper (h : Held) : Type 0 where
  pub long : length h.octets ≡ 88
  pub room : h.taken ≤ 3
  pub rest : drop (22 * h.taken) h.octets ≡ replicate (88 - 22 * h.taken) 0x2b

few : (k t : ℕ) → cond (eqb k 0) (eqb t 0) (leb k 2 && (leb 1 t && leb t 3)) ≡ true → t ≤ 3
few k t e =
    true_or_false (eqb k 0) (λ q. omega (arith, eqb-true t 0 (rw q at e)))
    (λ q. leb-true t 3 (both (leb 1 t) (leb t 3) (both (leb k 2) (leb 1 t && leb t 3) (rw q at e)).1).1)

pub proper_facts : (h : Held) → proper h ≡ true → Proper h
unfolding proper
proper_facts h e =
    let parts = both _ _ e in
    let long = eqb-true (length h.octets) 88 parts.0 in
    let kinds = both _ _ parts.1 in
    let rest = drop (22 * h.taken) h.octets in
    let size : length rest ≡ 88 - 22 * h.taken = length-drop (22 * h.taken) h.octets ∙ rw long in
    record {
      long = long;
      room = few h.kind h.taken kinds.0;
      rest = rw size at (all_blank_is rest kinds.1);
    }

abbrev pub is_taken : Place → Bool
is_taken (none n) = false
is_taken (first k l) = true
is_taken (next l) = true

is_taken_ok : (x : PlaceCode) → is_taken (placed (Ok x)) ≡ true
is_taken_ok (First k l) = refl
is_taken_ok (Next l) = refl

whole : (t : ℕ) (p : List ℕ) (y r : Place) → Ruling none (faults t p) y r → is_taken r ≡ true → length p ≡ 23
whole t p y r (refuses n a q) e = absurd (false≢true (ap is_taken (sym q) ∙ e))
whole t p y r (passes h q) e = eqb-true (length p) 23 (not-false _ h.0)

-- a piece that has a place is a whole block
place_of_whole : (t : ℕ) (p : List ℕ) → is_taken (place_of t p) ≡ true → length p ≡ 23
unfolding place_of
place_of_whole t p e = whole t p _ (place_of t p) (ruling none (faults t p) _) e

-- a piece for which a place was found can be added to a message with nothing taken, and to a proper state
module _ (p : List ℕ) (r : Result PlaceCode Refusal) (x : PlaceCode) (found : r ≡ Ok x) where
  taken_place : (t : ℕ) → placed r ≡ place_of t p → is_taken (place_of t p) ≡ true
  taken_place t e = ap is_taken (sym e ∙ ap placed found) ∙ is_taken_ok x

  pub adds_first : (h : Held) (k t : ℕ) → h ≡ state_with k 0 blank → placed r ≡ place_of t p → Adds h.taken h.octets p
  adds_first h k t q e = rw q (record { whole = place_of_whole t p (taken_place t e); room = lit≤ tt; rest = refl })

  pub adds_next : (h : Held) → proper h ≡ true → placed r ≡ place_of h.taken p → Adds h.taken h.octets p
  adds_next h good e =
      let facts = proper_facts h good in
      record { whole = place_of_whole h.taken p (taken_place h.taken e); room = facts.room; rest = facts.rest }
