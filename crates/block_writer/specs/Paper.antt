-- Messages cut into blocks, as document 01 has it.
use Rattle.std.specs.Prelude.{cond, not, ◌||◌, List, [], ◌∷◌, ◌++◌, ℕ, zero, suc, ◌+◌, ◌*◌, ◌/◌, length, take, drop, eqb, leb, ltb}
use Rattle.laws.specs.Ruled.{ruled}
use Rattle.block.specs.Paper.{Kind, sequence_code}

-- 01 Blocks: the number of the last used block, from 1: used ÷ 22, rounded up
abbrev pub last_used : ℕ → ℕ
last_used used = (used + 21) / 22

-- 01 Blocks: LB of block i, counted from 0: 0 before the last used block and 1 from it on
abbrev pub mark_of : ℕ → ℕ → ℕ
mark_of used i = cond (leb (last_used used) (suc i)) 1 0

-- 01 Blocks: the type octet of block i, counted from 0: spare bit 0, discriminator 01, LB, code
abbrev pub type_of : Kind → ℕ → ℕ → ℕ
type_of k used i = 32 + 16 * mark_of used i + sequence_code k i

-- 01 Blocks: block i of a message m, counted from 0: its type octet and its 22 octets
unfoldable pub block : Kind → ℕ → List ℕ → ℕ → List ℕ
block k used m i = type_of k used i ∷ take 22 (drop (22 * i) m)

-- 01 Blocks: the first n blocks of a message, one after the other
unfoldable pub blocks : Kind → ℕ → List ℕ → ℕ → List ℕ
blocks k used m zero = []
blocks k used m (suc n) = blocks k used m n ++ block k used m n

-- what a call that writes leaves: its number, and the lent output
pub record BlocksLeft : Type 0 where
  pub number : ℕ
  pub output : List ℕ

-- 01 Blocks, Order: the block writer; a refusal leaves the output as it was
unfoldable pub written_blocks : List ℕ → Kind → ℕ → List ℕ → BlocksLeft
written_blocks m k used out =
    ruled (λ (n : ℕ). record { number = n; output = out })
    ((not (eqb (length out) 92), 15) ∷ (not (eqb (length m) 88), 16) ∷ (eqb used 0 || ltb 88 used, 17) ∷ [])
    (record { number = 0; output = blocks k used m 4 })
