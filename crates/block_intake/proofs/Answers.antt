-- Answers put together from their parts, as the code does it.
use Rattle.laws.proofs.Base.{◌≡◌, Bool, true, cond, List, [], ◌++◌, ℕ, ◌+◌, ◌*◌, add-one, take, drop, eqb}
use Rattle.block.specs.Paper.{Held, Given, filled, start, added}
use Rattle.block.specs.Inner.{state_with, outcome}

-- the last block, with its kind's number
pub handed_parts : (l : Bool) (k t : ℕ) (o p w : List ℕ) → w ≡ filled (take (22 * t) o ++ drop 1 p) → (n : ℕ) (h : Held) → l ≡ true → h ≡ start
    → n ≡ cond (eqb k 2) 7 0
    → ◌≡◌ {A = Given} (record { number = n; received = 22 * (t + 1); octets = w; next = h }) (outcome l (added (state_with k t o) p))
handed_parts l k t o p w e n h q s m = rw q (λ i. record { number = m i; received = 22 * add-one t i; octets = e i; next = s i })

-- a first block, in a message with nothing taken
pub begun_parts : (l : Bool) (n k : ℕ) (h : Held) (p : List ℕ) → n ≡ k → h ≡ start
    → outcome l (added (state_with n h.taken h.octets) p) ≡ outcome l (added (state_with k 0 []) p)
begun_parts l n k h p e q = λ i. outcome l (added (state_with (e i) (q i).taken (q i).octets) p)
