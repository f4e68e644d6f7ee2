-- Text: numbers in ASCII, and octets behind a text.
use Rattle.std.specs.Prelude.{cond, List, [], ◌∷◌, ◌++◌, ℕ, zero, suc, ◌+◌, ◌/◌, ◌%◌, length, take, drop, leb, ltb}
use Prim.Native.Char.{code}
use Prim.Native.String.{String, [] as none, ◌∷◌ as ◌before◌}

-- the decimal digits of a number that has at most k + 1 of them, in ASCII
unfoldable pub spelled : ℕ → ℕ → List ℕ
spelled zero n = (48 + n % 10) ∷ []
spelled (suc k) n = cond (ltb n 10) ((48 + n) ∷ []) (spelled k (n / 10) ++ ((48 + n % 10) ∷ []))

-- a number of up to twenty digits in decimal
abbrev pub decimal : ℕ → List ℕ
decimal n = spelled 19 n

-- a digit below 16 in ASCII: 0 to 9, then A to F
abbrev pub hex_digit : ℕ → ℕ
hex_digit d = cond (ltb d 10) (48 + d) (55 + d)

-- the k lowest digits of a number to base 16, the highest of them first
unfoldable pub hexadecimal : ℕ → ℕ → List ℕ
hexadecimal zero n = []
hexadecimal (suc k) n = hexadecimal k (n / 16) ++ (hex_digit (n % 16) ∷ [])

-- the code points of a text's characters
unfoldable pub ascii : String → List ℕ
ascii none = []
ascii (c before s) = code c ∷ ascii s

-- what putting leaves: where the text ends, and its memory
pub record PutLeft : Type 0 where
  pub end : ℕ
  pub text : List ℕ

-- octets s behind the first n of a text t; where they do not fit, nothing is put
unfoldable pub behind : List ℕ → ℕ → List ℕ → PutLeft
behind s n t =
    cond (leb (n + length s) (length t))
    (record { end = n + length s; text = take n t ++ (s ++ drop (n + length s) t) })
    (record { end = n; text = t })

-- texts one behind the other; one that does not fit is left out
unfoldable pub all_behind : List (List ℕ) → ℕ → List ℕ → PutLeft
all_behind [] n t = record { end = n; text = t }
all_behind (s ∷ ss) n t = all_behind ss (behind s n t).end (behind s n t).text

-- a number in decimal, and an octet behind it
abbrev pub marked : ℕ → ℕ → List (List ℕ)
marked n mark = decimal n ∷ (mark ∷ []) ∷ []

-- texts as one
unfoldable pub flat : List (List ℕ) → List ℕ
flat [] = []
flat (s ∷ ss) = s ++ flat ss
