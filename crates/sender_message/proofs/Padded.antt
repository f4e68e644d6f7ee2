-- Laws of octets that are put one after the other over a message of 2B.
use Rattle.laws.proofs.Base.{◌≡◌, sym, ap, ◌∙◌, List, [], ◌∷◌, ◌++◌, ℕ, suc, ◌+◌, ◌-◌, ◌≤◌, min, add-zero, add-suc, suc-add, zero-add}
use Rattle.laws.proofs.Base.{add-one, arith, length, take, take-append-add, set, replicate, length-replicate, sets, sets-eq}
use Rattle.laws.specs.Upto.{each}
use Rattle.laws.proofs.Upto.{each_length}
use Rattle.laws.proofs.Parts.{take_replicate, drop_replicate}
use Rattle.sender_message.specs.Paper.{padded}

-- what is put in two parts is put as a whole
pub sets_append : (l : List ℕ) (i : ℕ) (xs ys : List ℕ) → sets l i (xs ++ ys) ≡ sets (sets l i xs) (i + length xs) ys
sets_append l i [] ys = rw add-zero
sets_append l i (x ∷ xs) ys = sets_append (set l i x) (suc i) xs ys ∙ rw (add-suc, suc-add)

-- a turn of a loop that puts octets one after the other from a place on
pub sets_turn : (f : ℕ → ℕ) (l o : List ℕ) (a j v : ℕ) → o ≡ sets l a (each f j) → v ≡ f j → set o (a + j) v ≡ sets l a (each f (j + 1))
unfolding each
sets_turn f l o a j v e q =
    let place : a + j ≡ a + length (each f j) = rw (each_length f j) in
    rw (e, q, add-one, place) (sym (sets_append l a (each f j) (f j ∷ [])))

-- the first 88 octets of what is put over 2B are padded
pub sets_padded : (o : List ℕ) → length o ≤ 88 → take 88 (sets (replicate 104 43) 0 o) ≡ padded o
unfolding padded
sets_padded o h =
    let room : 0 + length o ≤ length {A = ℕ} (replicate 104 43) = rw (length-replicate {A = ℕ} 104 43) (omega arith) in
    let a = 88 - length o in
    let here : length o + a ≡ 88 = omega arith in
    let least : min a (104 - length o) ≡ a = omega arith in
    let filling : List ℕ = replicate 104 43 in
    let put : sets filling 0 o ≡ o ++ replicate (104 - length o) 43 =
    sets-eq o filling 0 room ∙ rw (zero-add, drop_replicate (length o) 104 43) in
    ap (take 88) {x = sets filling 0 o} put
    ∙ ap (λ (k : ℕ). take k (o ++ replicate (104 - length o) 43)) (sym here)
    ∙ take-append-add o (replicate (104 - length o) 43) a
    ∙ ap (λ (y : List ℕ). o ++ y) (take_replicate a (104 - length o) 43 ∙ ap (λ (k : ℕ). replicate k 43) least)
