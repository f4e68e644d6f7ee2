-- A log cut into pieces, and the lines of its pieces.
use Rattle.std.specs.Prelude.{List, [], ◌∷◌, ◌++◌, ℕ, zero, suc, ◌+◌, ◌/◌, length, take, drop}
use Rattle.block.specs.Paper.{Held, Given, step}

-- k pieces of 23 octets of a log from a place on
unfoldable pub pieces : ℕ → ℕ → List ℕ → List (List ℕ)
pieces zero at log = []
pieces (suc k) at log = take 23 (drop at log) ∷ pieces k (at + 23) log

-- 01 cblist: a log, 23 octets at a time, and a shorter tail
abbrev pub cut : List ℕ → List (List ℕ)
cut log = pieces ((length log + 22) / 23) 0 log

-- the lines of pieces taken in order from a state, the first of them with number n, where f gives the line of a numbered answer
unfoldable pub listing : (ℕ → Given → List ℕ) → Held → ℕ → List (List ℕ) → List ℕ
listing f h n [] = []
listing f h n (p ∷ ps) = f n (step h p) ++ listing f (step h p).next (n + 1) ps
