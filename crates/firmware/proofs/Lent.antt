-- Laws of a state in lent memory: two octets in front, and the 88 behind them.
use Rattle.laws.proofs.Base.{◌≡◌, sym, ap, ◌∙◌, Bool, true, false, cond, List, [], ◌∷◌, ◌++◌, ℕ, suc, ◌+◌, ◌*◌, ◌-◌}
use Rattle.laws.proofs.Base.{◌≤◌, add-zero, add-one, arith, length, take, take_all, drop, length-drop, set, get_or, eqb, ne_eqb}
use borrow.Rule.Slice.PartMut.{put_mid}
use Rattle.laws.proofs.Parts.{put_copy}
use Rattle.block.specs.Paper.{Held, blank, start, proper, refusal, added, handed}
use Rattle.block.specs.Inner.{state_with, outcome, Adds}
use Rattle.block.proofs.Filled.{filled_next}
use Rattle.firmware.specs.Paper.{IntakeLeft, lent, held_in, moved}

-- the octets behind the front of a state
octets_in : (s : List ℕ) → length s ≡ 90 → take 88 (drop 2 s) ≡ drop 2 s
octets_in s long = take_all 88 (drop 2 s) (simp length-drop (omega arith))

-- what is told of the octets behind the front is told of the state
pub proper_in : (s : List ℕ) (b : Bool) → length s ≡ 90 → b ≡ proper (state_with (get_or s 0 0) (get_or s 1 0) (take 88 (drop 2 s))) → b ≡ proper (held_in s)
proper_in s b long e = rw (octets_in s long) at e

-- a cleared state with its kind set holds a message of that kind with nothing taken
pub begun_in : (s : List ℕ) (n k : ℕ) → s ≡ lent start → n ≡ k → held_in (set s 0 n) ≡ state_with k 0 blank
begun_in s n k q e = λ i. held_in (set (q i) 0 (e i))

-- a content in its place, and the block counted
counted : (x t : ℕ) (o c : List ℕ)
    → set (take (2 + 22 * t) (x ∷ t ∷ o) ++ (c ++ drop (2 + 22 * t + 22) (x ∷ t ∷ o))) 1 (t + 1)
    ≡ x ∷ suc t ∷ (take (22 * t) o ++ (c ++ drop (22 * t + 22) o))
counted x t o c =
    let past : 2 + 22 * t + 22 ≡ suc (suc (22 * t + 22)) = omega arith in
    let up_to : 2 + 22 * t ≡ suc (suc (22 * t)) = omega arith in
    rw (past, up_to, add-one)

pub put_content : (s p c y : List ℕ) → length s ≡ 90 → Adds (held_in s).taken (held_in s).octets p → c ≡ drop 1 p → y ≡ c
    → set (put_mid (2 + 22 * get_or s 1 0) (2 + 22 * get_or s 1 0 + 22 - (2 + 22 * get_or s 1 0)) s y) 1 (get_or s 1 0 + 1) ≡ lent (added (held_in s) p)
put_content [] p c y long adds e q = absurd (omega arith)
put_content (x ∷ []) p c y long adds e q = absurd (omega arith)
put_content (x ∷ t ∷ o) p c y long adds e q =
    let whole = adds.whole in
    let room = adds.room in
    let size : length o ≡ 88 = omega arith in
    ap (λ w. set w 1 (t + 1)) (put_copy (2 + 22 * t) (2 + 22 * t + 22) (x ∷ t ∷ o) c y (omega arith) (omega arith) q)
    ∙ counted x t o c
    ∙ ap (λ w. x ∷ suc t ∷ w) (rw e (filled_next t o p room size whole adds.rest))

-- what the last block leaves
pub complete_over : (s o : List ℕ) (r : ℕ) (v w : List ℕ) → length s ≡ 90 → 1 ≤ get_or s 1 0
    → r ≡ cond (eqb (get_or s 0 0) 2) 7 0 + 256 * (22 * get_or s 1 0) → v ≡ lent start → w ≡ take 88 (drop 2 s)
    → ◌≡◌ {A = IntakeLeft} (record { returned = r; state = v; output = w }) (moved (handed (held_in s)) o)
complete_over s o r v w long some n q m =
    let e : eqb (22 * get_or s 1 0) 0 ≡ false = ne_eqb (22 * get_or s 1 0) 0 (omega arith) in
    let octets = m ∙ octets_in s long in
    rw e (λ i. record { returned = n i; state = q i; output = octets i })

module _ (last : Bool) (h : Held) (p o v : List ℕ) where
  -- what a block leaves that is only taken
  pub taken_over : last ≡ false → v ≡ lent (added h p)
      → ◌≡◌ {A = IntakeLeft} (record { returned = 1; state = v; output = o }) (moved (outcome last (added h p)) o)
  taken_over e q = rw e (λ i. record { returned = 1; state = q i; output = o })

  pub handed_over : last ≡ true → v ≡ lent (added h p) → moved (handed (held_in v)) o ≡ moved (outcome last (added h p)) o
  handed_over e q = rw e (ap (λ s. moved (handed (held_in s)) o) q)

-- a block is taken where one was added
pub taken_some : (h : Held) (p v : List ℕ) → v ≡ lent (added h p) → 1 ≤ (held_in v).taken
taken_some h p v q = rw q (omega arith)

-- what a refused piece leaves
pub refused_over : (n r : ℕ) (v o : List ℕ) → r ≡ n → v ≡ lent start
    → ◌≡◌ {A = IntakeLeft} (record { returned = r; state = v; output = o }) (moved (refusal n) o)
refused_over n r v o e q =
    let returned = e ∙ sym (add-zero n) in
    λ i. record { returned = returned i; state = q i; output = o }
