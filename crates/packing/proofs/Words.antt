-- Parts of digits whose number is a machine word.
use Rattle.laws.proofs.Base.{List, ℕ, ◌^◌, ◌≤◌, le_trans, pow-le-pow_right, min-le_left, arith, length, take, drop, length-take}
use Rattle.laws.specs.Radix.{Below}
use Rattle.laws.proofs.Radix.{below_take, below_drop}
use Rattle.packing.specs.Inner.{Word}

-- k digits to base b fit, so n of them do from any place on, where n is at most k
pub part_word : (b k n a : ℕ) (xs : List ℕ) → b ^ k ≤ 2 ^ 64 → n ≤ k → Below b xs → Word b (take n (drop a xs))
part_word b k n a xs fit h low =
    record {
      below = below_take b n (drop a xs) (below_drop b a xs low);
      room =
          le_trans
          (pow-le-pow_right (omega (arith, low 0)) (rw length-take (le_trans (min-le_left n (length (drop a xs))) h)))
          fit;
    }
