-- A log that is read chunk by chunk is listed as if it were read at once.
use Rattle.laws.proofs.Base.{◌≡◌, sym, ◌∙◌, List, [], ◌∷◌, ◌++◌, append_assoc, ℕ, suc, ◌+◌, ◌/◌, add-zero, arith, length}
use Rattle.block.specs.Paper.{Held, Given, step}
use Rattle.block_history.specs.Claims.{after}
use Rattle.logs.specs as defs
use defs.Paper.{listing, cut}
use defs.Claims.{InChunks}
use Rattle.logs.proofs.Pieces.{length_pieces, cut_append}

module _ (f : ℕ → Given → List ℕ) where
  -- lines of pieces and further pieces
  pub listing_append : (h : Held) (n : ℕ) (ps qs : List (List ℕ)) → listing f h n (ps ++ qs) ≡ listing f h n ps ++ listing f (after h ps) (n + length ps) qs
  unfolding listing after
  listing_append h n [] qs = rw (add-zero n)
  listing_append h n (p ∷ ps) qs =
      let g = step h p in
      let count : n + 1 + length ps ≡ n + suc (length ps) = omega arith in
      rw (listing_append g.next (n + 1) ps qs, count)
      (sym (append_assoc (f n g) (listing f g.next (n + 1) ps) (listing f (after g.next ps) (n + suc (length ps)) qs)))

  pub in_chunks : InChunks f
  in_chunks h n k chunk rest e =
      let these : (length chunk + 22) / 23 ≡ k = omega arith in
      let count : length (cut chunk) ≡ k = length_pieces ((length chunk + 22) / 23) 0 chunk ∙ these in
      rw (cut_append k chunk rest e) (rw count at (listing_append h n (cut chunk) (cut rest)))
