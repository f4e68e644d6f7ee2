-- The blocks that the writer writes, taken in: what each of the four is answered.
use Rattle.laws.proofs.Base.{◌≡◌, refl, sym, ap, ◌∙◌, true, false, List, [], ◌∷◌, ℕ, zero, suc, ◌+◌, ◌*◌, ◌/◌, ◌%◌, ◌≤◌, ◌<◌, le_of_lt, arith, length, take, drop, length-drop, drop_at}
use Rattle.laws.proofs.Base.{take_all, take-append-le, drop-append-le, take-add, eqb, leb, ltb, lit≤, ne_eqb, le-leb, lt-leb, eqb-true, eqb-false, ltb-true, ltb-false}
use Rattle.laws.proofs.Snoc.{length_snoc}
use Rattle.laws.proofs.Tests.{true_or_false, le_or_lt}
use Rattle.block.specs.Paper.{Kind, kind_number, mark, sequence_code, filled, Held, start, proper, handed, last, step}
use Rattle.block.specs.Inner.{outcome}
use Rattle.block_writer.specs.Paper.{mark_of, last_used, block, blocks}
use Rattle.block_writer.proofs.Write.{code_of_small, length_block, length_blocks}
use Rattle.block_history.specs.Claims.{IsBlock, contents, after, piece, first_pieces, BlocksTaken}
use Rattle.block_history.proofs as own
use own.Joins.{next_of, Part, nothing, more, join, not_next, contents_snoc}
use own.History.{after_append, held_part}

mark_of_small : (used i : ℕ) → mark_of used i ≤ 1
mark_of_small used i = true_or_false (leb (last_used used) (suc i)) (λ e. rw e (lit≤ tt)) (λ e. rw e (lit≤ tt))

-- the bits of a type octet
type_bits : (l c : ℕ) → l ≤ 1 → c ≤ 8 → ((32 + 16 * l + c) / 32 % 4 ≡ 1) × ((32 + 16 * l + c) % 16 ≡ c) × ((32 + 16 * l + c) / 16 % 2 ≡ l)
type_bits zero c h g = omega arith
type_bits (suc zero) c h g = omega arith
type_bits (suc (suc l)) c h g = absurd (omega arith)

module _ (k : Kind) (used : ℕ) (m : List ℕ) (long : length m ≡ 88) where
  -- a block cut from the output is the block that was written
  cut : (n i : ℕ) → n ≤ 4 → i < n → take 23 (drop (23 * i) (blocks k used m n)) ≡ block k used m i
  unfolding blocks
  cut zero i h g = absurd (omega arith)
  cut (suc n) i h g =
      let size = length_blocks k used m long n (le_of_lt h) in
      le_or_lt n i
      (λ l.
      let e : i ≡ n = omega arith in
      rw (e, drop_at (blocks k used m n) (block k used m n) (23 * n) size)
      (take_all 23 (block k used m n) (omega (arith, length_block k used m long n h))))
      (λ below.
      let room : 23 ≤ length (drop (23 * i) (blocks k used m n)) = simp length-drop (omega (arith, size)) in
      rw (drop-append-le (23 * i) (blocks k used m n) (block k used m n) (omega (arith, size)))
      (take-append-le 23 (drop (23 * i) (blocks k used m n)) (block k used m n) room ∙ cut n i (le_of_lt h) below))

  pub piece_block : (i : ℕ) → i < 4 → piece k used m i ≡ block k used m i
  piece_block i h = cut 4 i (lit≤ tt) h

  -- the type octet of a written block, read back
  typed : (i : ℕ) → i < 4 → IsBlock k i (piece k used m i) × (mark (piece k used m i) ≡ mark_of used i)
  unfolding block
  typed i h =
      let bits = type_bits (mark_of used i) (sequence_code k i) (mark_of_small used i) (code_of_small k i h) in
      rw (piece_block i h)
      (record { whole = length_block k used m long i h; ours = bits.0; numbered = bits.1 }, bits.2)

  length_pieces : (i : ℕ) → length (first_pieces k used m i) ≡ i
  unfolding first_pieces
  length_pieces zero = refl
  length_pieces (suc i) = length_snoc (first_pieces k used m i) (piece k used m i) ∙ ap suc (length_pieces i)

  -- the contents of the first blocks are the front of the message
  contents_pieces : (i : ℕ) → i ≤ 4 → contents (first_pieces k used m i) ≡ take (22 * i) m
  unfolding first_pieces contents block
  contents_pieces zero h = refl
  contents_pieces (suc i) h =
      let e : 22 * suc i ≡ 22 * i + 22 = omega arith in
      contents_snoc (first_pieces k used m i) (piece k used m i)
      ∙ rw (contents_pieces i (le_of_lt h), piece_block i h, e) (sym (take-add (22 * i) 22 m))

  module _ (h : Held) (good : proper h ≡ true) (some : 1 ≤ used) (most : used ≤ 88) where
    -- before the last used block, the pieces so far are a part of the message
    part_pieces : (i : ℕ) → i < last_used used → i < 4 → Part k (first_pieces k used m i)
    unfolding first_pieces
    part_pieces zero a b = nothing
    part_pieces (suc i) a b =
        let t = typed i (le_of_lt b) in
        let n = length_pieces i in
        more {u = first_pieces k used m i} {p = piece k used m i} (part_pieces i (le_of_lt a) (le_of_lt b)) (omega (arith, n)) (rw n t.0) (t.1 ∙ rw (lt-leb _ _ a))

    -- up to the last used block, a block is added to those before it
    joined : (i : ℕ) → i < 4 → suc i ≤ last_used used
        → step (after h (first_pieces k used m i)) (piece k used m i)
        ≡ outcome (last (piece k used m i) (suc i)) (record { kind = kind_number k; taken = suc i; octets = filled (take (22 * suc i) m) })
    unfolding first_pieces
    joined i b a =
        let part = part_pieces i a b in
        let n = length_pieces i in
        let taken = join (piece k used m i) part (held_part h good part) (rw n (typed i b).0) in
        rw (n, length_pieces (suc i), contents_pieces (suc i) b) at taken

    -- the last used block completes the message
    completed : (i : ℕ) → i < 4 → suc i ≡ last_used used
        → step (after h (first_pieces k used m i)) (piece k used m i)
        ≡ handed (record { kind = kind_number k; taken = suc i; octets = filled (take (22 * suc i) m) })
    completed i b e =
        let marked : mark (piece k used m i) ≡ 1 = (typed i b).1 ∙ rw (le-leb (last_used used) (suc i) (omega arith)) in
        rw marked at (joined i b (omega arith))

    -- after it nothing is held
    ended : (i : ℕ) → last_used used ≤ i → i ≤ 4 → after h (first_pieces k used m i) ≡ start
    unfolding first_pieces after
    ended zero a b = absurd (omega arith)
    ended (suc i) a b =
        after_append h (first_pieces k used m i) (piece k used m i ∷ [])
        ∙ le_or_lt (last_used used) i
        (λ past.
        rw (ended i past (le_of_lt b)) (next_of (not_next k i (piece k used m i) (omega arith) (omega arith) (typed i b).0)))
        (λ l. next_of (completed i b (omega arith)))

pub blocks_taken : BlocksTaken
blocks_taken k used m h long some most good i b =
    let w = typed k used m long i b in
    true_or_false (ltb (suc i) (last_used used))
    (λ e.
    let a = ltb-true (suc i) (last_used used) e in
    let unmarked : mark (piece k used m i) ≡ 0 = w.1 ∙ rw (lt-leb (last_used used) (suc i) a) in
    let more_to_come : eqb (suc i) 4 ≡ false = ne_eqb (suc i) 4 (omega arith) in
    rw e (rw (unmarked, more_to_come) at (joined k used m long h good some most i b (omega arith))))
    (λ e. true_or_false (eqb (suc i) (last_used used))
    (λ f. rw (e, f) (completed k used m long h good some most i b (eqb-true (suc i) (last_used used) f)))
    (λ f.
    let past : last_used used ≤ i = omega (arith, ltb-false (suc i) (last_used used) e, eqb-false (suc i) (last_used used) f) in
    rw (e, f, ended k used m long h good some most i past (omega arith))
    (not_next k i (piece k used m i) (omega arith) (omega arith) w.0)))
