-- Laws of a message that is filled up with 2B, and of one block more in it.
use Rattle.laws.proofs.Base.{◌≡◌, sym, ◌∙◌, List, ◌++◌, append_assoc, ℕ, ◌+◌, ◌*◌, ◌-◌, ◌≤◌, arith, length, take, drop, replicate, length-append, length-take, length-drop, drop-drop, take_all}
use borrow.Rule.Slice.PartMut.{mid_of, put_mid}
use Rattle.laws.proofs.Parts.{put_copy, drop_replicate}
use Rattle.block.specs.Paper.{filled}

-- what is lent from a place on is the rest
pub rest_of : (a : ℕ) (s : List ℕ) → mid_of a (length s - a) s ≡ drop a s
rest_of a s = take_all (length s - a) (drop a s) (simp length-drop (omega arith))

module _ (t : ℕ) (o p : List ℕ) (room : t ≤ 3) (long : length o ≡ 88) (whole : length p ≡ 23)
    (rest : drop (22 * t) o ≡ replicate (88 - 22 * t) 0x2b) where
  -- a block's content over the 2B where it belongs: the octets up to it, filled
  pub filled_next : take (22 * t) o ++ (drop 1 p ++ drop (22 * t + 22) o) ≡ filled (take (22 * t) o ++ drop 1 p)
  filled_next =
      let tail : drop (22 * t + 22) o ≡ replicate (88 - 22 * t - 22) 0x2b =
      sym (drop-drop 22 (22 * t) o) ∙ rw rest (drop_replicate 22 (88 - 22 * t) 0x2b) in
      let size : 88 - length (take (22 * t) o ++ drop 1 p) ≡ 88 - 22 * t - 22 =
      simp (length-append, length-take, length-drop) (omega arith) in
      rw (tail, size) (sym (append_assoc (take (22 * t) o) (drop 1 p) (replicate (88 - 22 * t - 22) 0x2b)))

  -- the same for a content that is copied over the part lent
  pub filled_copy : (y : List ℕ) → y ≡ drop 1 p → put_mid (22 * t) (22 * t + 22 - 22 * t) o y ≡ filled (take (22 * t) o ++ drop 1 p)
  filled_copy y q = put_copy (22 * t) (22 * t + 22) o (drop 1 p) y (omega arith) (omega arith) q ∙ filled_next
