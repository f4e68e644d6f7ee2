-- The room that the words of a refusal or a rule need.
use Rattle.laws.proofs.Base.{◌≡◌, refl, Bool, true, false, ◌&&◌, List, [], ◌∷◌, ℕ, ◌≤◌, arith, length, eqb, leb, leb-true}
use Prim.Native.String.{String}
use Rattle.laws.proofs.Tests.{both}
use Rattle.lines.specs.Paper.{ascii}
use Rattle.words.specs.Paper.{find, words, table, rule_words, rules}

-- every entry of a table has at most so many octets
unfoldable short : ℕ → List (ℕ × String) → Bool
short most [] = true
short most ((k, w) ∷ t) = leb (length (ascii w)) most && short most t

find_few : (most : ℕ) (t : List (ℕ × String)) (n : ℕ) → short most t ≡ true → length (find t n) ≤ most
unfolding find short
find_few most [] n e = omega arith
find_few most ((k, w) ∷ t) n e =
    let few = both (leb (length (ascii w)) most) (short most t) e in
    go (eqb n k) refl (leb-true (length (ascii w)) most few.0) (find_few most t n few.1)
  where
    go : (b : Bool) → eqb n k ≡ b → length (ascii w) ≤ most → length (find t n) ≤ most → length (find ((k, w) ∷ t) n) ≤ most
    go true p h rest = rw p h
    go false p h rest = rw p rest

pub words_few : (n : ℕ) → length (words n) ≤ 79
unfolding ascii short
words_few n = find_few 79 table n refl

pub rule_words_few : (n : ℕ) → length (rule_words n) ≤ 52
unfolding ascii short
rule_words_few n = find_few 52 rules n refl
