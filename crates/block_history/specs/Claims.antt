-- Pieces given one after the other from a started state: the statements of demand 2.
use Rattle.std.specs.Prelude.{◌≡◌, cond, not, true, List, [], ◌∷◌, ◌++◌, ◌⊎◌, ◌↔◌, ℕ, zero, suc, ◌*◌, ◌-◌, ◌≤◌, ◌<◌, length, take, drop, get_or, eqb, ltb}
use Rattle.laws.specs.Ruled.{ruled}
use Rattle.block.specs.Paper.{Kind, page, schedule, link, mark, code, reserved_code, sequence_code, kind_number, Held, Given, filled, start, proper, refusal, handed, kept, step}
use Rattle.block_writer.specs.Paper.{last_used, blocks}

-- 01 Numbers given: the answer to the piece that completes a message
abbrev pub completes : Kind → ℕ
completes page = 0
completes schedule = 7

-- 01 Intake: what pieces, given in order, leave of a state
unfoldable pub after : Held → List (List ℕ) → Held
after h [] = h
after h (p ∷ ps) = after (step h p).next ps

-- 00 demand 2: the answer to a piece after others, from a started state
abbrev pub answered : List (List ℕ) → List ℕ → Given
answered ps p = step (after start ps) p

-- 01 Blocks: p is block i of a message of kind k, counted from 0
pub record IsBlock (k : Kind) (i : ℕ) (p : List ℕ) : Type 0 where
  pub whole : length p ≡ 23
  pub ours : link p ≡ 1
  pub numbered : code p ≡ sequence_code k i

-- 00 demand 2: a first block and its consecutive followers, ending at the first last-block mark or at the fourth block
pub record Run (k : Kind) (r : List (List ℕ)) : Type 0 where
  pub some : 1 ≤ length r
  pub most : length r ≤ 4
  pub each : (i : ℕ) → i < length r → IsBlock k i (get_or r i [])
  pub unmarked : (i : ℕ) → suc i < length r → mark (get_or r i []) ≡ 0
  pub ended : (mark (get_or r (length r - 1) []) ≡ 1) ⊎ (length r ≡ 4)

-- 01 Intake: a first block and its consecutive followers, up to three and none marked, which the next block may follow
pub record Unfinished (k : Kind) (u : List (List ℕ)) : Type 0 where
  pub some : 1 ≤ length u
  pub most : length u ≤ 3
  pub each : (i : ℕ) → i < length u → IsBlock k i (get_or u i [])
  pub unmarked : (i : ℕ) → i < length u → mark (get_or u i []) ≡ 0

-- 00 demand 2: the latest pieces, up to and with p, are r
pub record Latest (ps : List (List ℕ)) (p : List ℕ) (r : List (List ℕ)) : Type 0 where
  pub older : List (List ℕ)
  pub split : ps ++ (p ∷ []) ≡ older ++ r

-- 01 Intake: the octets of blocks without their type octets
unfoldable pub contents : List (List ℕ) → List ℕ
contents [] = []
contents (p ∷ r) = drop 1 p ++ contents r

-- 00 demand 2: a message of kind k is complete at a piece exactly when the latest pieces are a run of it
abbrev pub CompleteExactly : Type 0
CompleteExactly =
    (k : Kind) (ps : List (List ℕ)) (p : List ℕ)
    → ((answered ps p).number ≡ completes k) ↔ ((r : List (List ℕ)) × Latest ps p r × Run k r)

-- 00 demand 2: then the octets are those of the run, and 22 are received for each of its blocks
abbrev pub CompleteGives : Type 0
CompleteGives =
    (k : Kind) (ps : List (List ℕ)) (p : List ℕ) (r : List (List ℕ)) → Latest ps p r → Run k r
    → answered ps p ≡ record { number = completes k; received = 22 * length r; octets = filled (contents r); next = start }

-- 01 Intake: the blocks held of an unfinished message, in a state
abbrev pub holding : Kind → List (List ℕ) → Held
holding k u = record { kind = kind_number k; taken = length u; octets = filled (contents u) }

-- 01 Intake: at a piece with which the latest ones are unfinished, it is only taken, and they are held
abbrev pub TakenGives : Type 0
TakenGives =
    (k : Kind) (ps : List (List ℕ)) (p : List ℕ) (u : List (List ℕ)) → Latest ps p u → Unfinished k u
    → answered ps p ≡ kept (holding k u)

-- 01 Intake, Order: what refuses a piece that goes on no message: 2 to 5 by itself, and 6 for a block that is not next
abbrev pub refused_by : List ℕ → ℕ
refused_by p =
    ruled (λ n. n)
    ((not (eqb (length p) 23), 2) ∷ (not (eqb (link p) 1), 3) ∷ (reserved_code (code p), 4) ∷ (eqb (code p) 15, 5) ∷ [])
    6

-- 01 Intake: a piece goes on a message: the latest pieces, up to and with it, are a run or unfinished
abbrev pub GoesOn : List (List ℕ) → List ℕ → Type 0
GoesOn ps p = (k : Kind) × (r : List (List ℕ)) × Latest ps p r × (Run k r ⊎ Unfinished k r)

-- each piece does or does not
abbrev pub GoesOnDecided : Type 0
GoesOnDecided = (ps : List (List ℕ)) (p : List ℕ) → GoesOn ps p ⊎ (GoesOn ps p → ⊥)

-- 01 Intake: everything else is refused, and the state is as after start
abbrev pub RefusedGives : Type 0
RefusedGives = (ps : List (List ℕ)) (p : List ℕ) → (GoesOn ps p → ⊥) → answered ps p ≡ refusal (refused_by p)

-- 01 Blocks: block i of the four that were written, as it is cut from the 92 octets
abbrev pub piece : Kind → ℕ → List ℕ → ℕ → List ℕ
piece k used m i = take 23 (drop (23 * i) (blocks k used m 4))

-- the first n of them
unfoldable pub first_pieces : Kind → ℕ → List ℕ → ℕ → List (List ℕ)
first_pieces k used m zero = []
first_pieces k used m (suc n) = first_pieces k used m n ++ (piece k used m n ∷ [])

-- 01 Blocks, Intake: the answer to block i of a written message: taken before the last used block, handed out at it, not next after it
abbrev pub expected : Kind → ℕ → List ℕ → ℕ → Given
expected k used m i =
    let sofar : Held = record { kind = kind_number k; taken = suc i; octets = filled (take (22 * suc i) m) } in
    cond (ltb (suc i) (last_used used)) (kept sofar) (cond (eqb (suc i) (last_used used)) (handed sofar) (refusal 6))

-- the four blocks of a written message, taken in order from any proper state, hand out exactly the used part, rounded up to blocks
abbrev pub BlocksTaken : Type 0
BlocksTaken =
    (k : Kind) (used : ℕ) (m : List ℕ) (h : Held) → length m ≡ 88 → 1 ≤ used → used ≤ 88 → proper h ≡ true → (i : ℕ) → i < 4
    → step (after h (first_pieces k used m i)) (piece k used m i) ≡ expected k used m i
