-- Laws of the blocks of a message, and of one turn of the loop that writes them.
use Rattle.laws.proofs.Base.{◌≡◌, refl, sym, ap, ◌∙◌, List, [], ◌∷◌, ◌++◌, append_assoc, append-nil, ℕ, zero, suc, ◌+◌, ◌*◌, ◌-◌, ◌≤◌, ◌<◌, le_of_lt, add-one, arith, length, take}
use Rattle.laws.proofs.Base.{drop, set, length-append, length-take, length-drop, length-set, drop_of_length-le, take_at, drop_at, drop-drop, take-suc-set, drop-set-lt, eqb, lit≤}
use borrow.Rule.Slice.PartMut.{mid_of, put_mid}
use Rattle.laws.proofs.Parts.{put_copy}
use Rattle.laws.proofs.Tests.{true_or_false}
use Rattle.block.specs.Paper.{Kind, page, schedule, first_code, sequence_code}
use Rattle.block_writer.specs.Paper.{type_of, block, blocks}

first_code_small : (k : Kind) → first_code k ≤ 8
first_code_small page = lit≤ tt
first_code_small schedule = lit≤ tt

-- a sequence code fits its four bits
pub code_of_small : (k : Kind) (i : ℕ) → i < 4 → sequence_code k i ≤ 8
code_of_small k i h = true_or_false (eqb i 0) (λ e. rw e (first_code_small k)) (λ e. rw e (omega arith))

module _ (k : Kind) (used : ℕ) (m : List ℕ) (long : length m ≡ 88) where
  pub length_block : (i : ℕ) → i < 4 → length (block k used m i) ≡ 23
  unfolding block
  length_block i h = ap suc (simp (length-take, length-drop) (omega arith))

  pub length_blocks : (n : ℕ) → n ≤ 4 → length (blocks k used m n) ≡ 23 * n
  unfolding blocks
  length_blocks zero h = refl
  length_blocks (suc n) h =
      length-append (blocks k used m n) (block k used m n) ∙ rw (length_blocks n (le_of_lt h), length_block n h) (omega arith)

  -- all four blocks stand where the output stood
  pub written_all : (out₀ : List ℕ) → length out₀ ≡ 92 → blocks k used m 4 ++ drop 92 out₀ ≡ blocks k used m 4
  written_all out₀ size = rw (drop_of_length-le out₀ {i = 92} (omega arith)) (append-nil (blocks k used m 4))

  module _ (i : ℕ) (out₀ out : List ℕ) (h : i < 4) (size : length out ≡ 92) (inv : out ≡ blocks k used m i ++ drop (23 * i) out₀) where
    front : take (23 * i) out ≡ blocks k used m i
    front = rw inv (take_at (blocks k used m i) (drop (23 * i) out₀) (23 * i) (length_blocks i (le_of_lt h)))

    back : drop (23 * i + 23) out ≡ drop (23 * i + 23) out₀
    back =
        sym (drop-drop 23 (23 * i) out)
        ∙ rw inv (ap (drop 23) (drop_at (blocks k used m i) (drop (23 * i) out₀) (23 * i) (length_blocks i (le_of_lt h))))
        ∙ drop-drop 23 (23 * i) out₀

    -- the type octet x is set and the content is copied behind it: one block more
    pub write_turn : (x : ℕ) (y : List ℕ) → x ≡ type_of k used i → y ≡ mid_of (22 * i) (22 * i + 22 - 22 * i) m
        → put_mid (23 * i + 1) (23 * i + 23 - (23 * i + 1)) (set out (23 * i) x) y ≡ blocks k used m (i + 1) ++ drop (23 * (i + 1)) out₀
    unfolding blocks block
    write_turn x y t q =
        let n : 22 * i + 22 - 22 * i ≡ 22 = omega arith in
        let at : 23 * i < length out = omega arith in
        let e : 23 * suc i ≡ 23 * i + 23 = omega arith in
        let head : take (23 * i + 1) (set out (23 * i) x) ≡ blocks k used m i ++ (type_of k used i ∷ []) =
        rw add-one (take-suc-set out (23 * i) x at ∙ rw (front, t)) in
        let tail : drop (23 * i + 23) (set out (23 * i) x) ≡ drop (23 * i + 23) out₀ =
        drop-set-lt (23 * i + 23) out (23 * i) x (omega arith) ∙ back in
        put_copy (23 * i + 1) (23 * i + 23) (set out (23 * i) x) (mid_of (22 * i) (22 * i + 22 - 22 * i) m) y (omega arith)
        (simp length-set (omega arith)) q
        ∙ rw (head, tail, n, add-one, e) (simp append_assoc)
