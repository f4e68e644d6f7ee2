-- What is claimed of logs that are listed chunk by chunk.
use Rattle.std.specs.Prelude.{◌≡◌, List, ◌++◌, ℕ, ◌+◌, ◌*◌, length}
use Rattle.block.specs.Paper.{Held, Given}
use Rattle.block_history.specs.Claims.{after}
use Rattle.logs.specs.Paper.{cut, listing}

-- a log listed in chunks of whole pieces is listed as one
abbrev pub InChunks : (ℕ → Given → List ℕ) → Type 0
InChunks f =
    (h : Held) (n k : ℕ) (chunk rest : List ℕ) → length chunk ≡ 23 * k
    → listing f h n (cut (chunk ++ rest)) ≡ listing f h n (cut chunk) ++ listing f (after h (cut chunk)) (n + k) (cut rest)
