-- Laws of a log cut into pieces: the next piece and the log behind it, and a log in two parts.
use Rattle.laws.proofs.Base.{◌≡◌, refl, sym, ap, ◌∙◌, List, [], ◌∷◌, ◌++◌, append-nil, ℕ, zero, suc, ◌+◌, ◌*◌, ◌-◌, ◌/◌, ◌≤◌, ◌<◌, min, zero-add, add-zero, arith}
use Rattle.laws.proofs.Base.{length, take, drop, length-append, length-drop, length-take, take_all, take-append-drop, take-append-le, drop-append-le, drop-append-add, drop-drop}
use Rattle.std.proofs.lemmas.List.{nil_from_length}
use Rattle.laws.proofs.Tests.{le_or_lt}
use Rattle.logs.specs.Paper.{pieces, cut}

-- the next place
abbrev pub ended : ℕ → List ℕ → ℕ
ended at log = min (at + 23) (length log)

-- the piece that is lent is the next piece of the log
pub piece_is : (at : ℕ) (log : List ℕ) → at < length log → take (ended at log - at) (drop at log) ≡ take 23 (drop at log)
piece_is at log h =
    le_or_lt (at + 23) (length log)
    (λ inside. let n : ended at log - at ≡ 23 = omega arith in rw n)
    (λ short.
    take_all (ended at log - at) (drop at log) (simp length-drop (omega arith)) ∙ sym (take_all 23 (drop at log) (simp length-drop (omega arith))))

-- a piece at the front of a log, and the log behind it
pub record Front (log p rest : List ℕ) : Type 0 where
  pub is : log ≡ p ++ rest
  pub long : length p ≡ min 23 (length log)
  pub some : 0 < length log

-- the piece that is lent is at the front of the log from a place on
pub front_at : (at behind : ℕ) (log : List ℕ) {end : ℕ} → at < length log → behind ≡ at + 23 → end ≡ ended at log
    → Front (drop at log) (take (end - at) (drop at log)) (drop behind log)
front_at at behind log h b e =
    let p : take (ended at log - at) (drop at log) ≡ take 23 (drop at log) = piece_is at log h in
    let both : take 23 (drop at log) ++ drop (at + 23) log ≡ drop at log =
    ap (λ (l : List ℕ). take 23 (drop at log) ++ l) (sym (drop-drop 23 at log)) ∙ take-append-drop 23 (drop at log) in
    rw (e, b, p) record { is = sym both; long = length-take 23 (drop at log); some = rw (length-drop at log) (omega arith) }

pub length_pieces : (k at : ℕ) (log : List ℕ) → length (pieces k at log) ≡ k
unfolding pieces
length_pieces zero at log = refl
length_pieces (suc k) at log = ap suc (length_pieces k (at + 23) log)

-- a log is cut into as many pieces as 23 octets go into it, and one more for a tail
pub length_cut : (log : List ℕ) → length (cut log) ≡ (length log + 22) / 23
length_cut log = length_pieces ((length log + 22) / 23) 0 log

-- pieces and those after them
pieces_append : (k j at : ℕ) (log : List ℕ) → pieces (k + j) at log ≡ pieces k at log ++ pieces j (at + 23 * k) log
unfolding pieces
pieces_append zero j at log = rw (zero-add j, add-zero at)
pieces_append (suc k) j at log =
    let first : suc k + j ≡ suc (k + j) = omega arith in
    let place : at + 23 + 23 * k ≡ at + 23 * suc k = omega arith in
    rw first (ap (λ (l : List (List ℕ)). take 23 (drop at log) ∷ l) (pieces_append k j (at + 23) log ∙ rw place))

-- pieces of a chunk, whatever follows it
pieces_front : (k at : ℕ) (xs ys : List ℕ) → at + 23 * k ≤ length xs → pieces k at (xs ++ ys) ≡ pieces k at xs
unfolding pieces
pieces_front zero at xs ys h = refl
pieces_front (suc k) at xs ys h =
    let room : 23 ≤ length (drop at xs) = simp length-drop (omega arith) in
    let one : take 23 (drop at (xs ++ ys)) ≡ take 23 (drop at xs) = rw (drop-append-le at xs ys (omega arith)) (take-append-le 23 (drop at xs) ys room) in
    rw (one, pieces_front k (at + 23) xs ys (omega arith))

-- pieces of what follows a chunk
pieces_back : (j at : ℕ) (xs ys : List ℕ) → pieces j (length xs + at) (xs ++ ys) ≡ pieces j at ys
unfolding pieces
pieces_back zero at xs ys = refl
pieces_back (suc j) at xs ys =
    let place : length xs + at + 23 ≡ length xs + (at + 23) = omega arith in
    rw (drop-append-add xs ys at, place, pieces_back j (at + 23) xs ys)

pub cut_append : (k : ℕ) (xs ys : List ℕ) → length xs ≡ 23 * k → cut (xs ++ ys) ≡ cut xs ++ cut ys
cut_append k xs ys e =
    let j = (length ys + 22) / 23 in
    let all : (length (xs ++ ys) + 22) / 23 ≡ k + j = rw (length-append xs ys) (omega arith) in
    let these : (length xs + 22) / 23 ≡ k = omega arith in
    let end : 0 + 23 * k ≡ length xs + 0 = omega arith in
    rw (all, these, pieces_append k j 0 (xs ++ ys), pieces_front k 0 xs ys (omega arith), end) (ap (λ (l : List (List ℕ)). pieces k 0 xs ++ l) (pieces_back j 0 xs ys))

-- a log of one piece
cut_one : (p : List ℕ) → 0 < length p → length p ≤ 23 → cut p ≡ p ∷ []
unfolding pieces
cut_one p some few =
    let one : (length p + 22) / 23 ≡ 1 = omega arith in
    rw (one, take_all 23 p few)

-- the next piece, and the log behind it
pub cut_next : (p rest : List ℕ) → length p ≡ min 23 (length (p ++ rest)) → 0 < length (p ++ rest) → cut (p ++ rest) ≡ p ∷ cut rest
unfolding pieces
cut_next p rest size some =
    let both = length-append p rest in
    let first = cut_one p (omega arith) (omega arith) in
    le_or_lt 23 (length p)
    (λ whole. cut_append 1 p rest (omega arith) ∙ rw first)
    (λ short.
    let none : rest ≡ [] = nil_from_length rest (omega arith) in
    rw (none, append-nil) first)
