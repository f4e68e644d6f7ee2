-- Laws of dropping the CRs at the end of some characters.
use Rattle.laws.proofs.Base.{◌≡◌, refl, sym, ap, ◌∙◌, true, false, not, List, [], ◌∷◌, ◌++◌, append_assoc, append-nil, ℕ, zero, suc, ◌-◌, ◌<◌, ◌≤◌, sub-zero, suc-sub-suc}
use Rattle.laws.proofs.Base.{arith, eqb, length, get_or, take, drop, replicate, length-append, take-suc, take_at, take-append-drop, length-take-le, eqb-true, not-true}
use Rattle.laws.proofs.Tests.{true_or_false, both}
use Rattle.text.specs.Paper.{cr, Character, is_plain_cr, left_with, trimmed}

-- the CR that is dropped
abbrev pub plain_cr : Character
plain_cr = record { point = cr; escaped = false }

is_plain_cr_lem : (x : Character) → is_plain_cr x ≡ true → x ≡ plain_cr
is_plain_cr_lem x e =
    let w = both (eqb x.point cr) (not x.escaped) e in
    let p : x.point ≡ cr = eqb-true x.point cr w.0 in
    let q : x.escaped ≡ false = not-true x.escaped w.1 in
    λ i. record { point = p i; escaped = q i }

-- a CR at the end is dropped
trim_cr : (l : List Character) → trimmed (l ++ (plain_cr ∷ [])) ≡ trimmed l
unfolding trimmed left_with
trim_cr [] = refl
trim_cr (x ∷ l) = ap (left_with x) (trim_cr l)

-- a character before another one stays
left_some : (y : Character) (l : List Character) (x : Character) (m : List Character) → left_with y (l ++ (x ∷ m)) ≡ y ∷ (l ++ (x ∷ m))
unfolding left_with
left_some y [] x m = refl
left_some y (z ∷ l) x m = refl

left_other : (x : Character) (l : List Character) → is_plain_cr x ≡ false → left_with x l ≡ x ∷ l
unfolding left_with
left_other x [] other = rw other
left_other x (y ∷ l) other = refl

-- what stands behind a character that stays is trimmed by itself
pub trim_behind : (l : List Character) (x : Character) (m : List Character) → is_plain_cr x ≡ false → trimmed (l ++ (x ∷ m)) ≡ l ++ (x ∷ trimmed m)
unfolding trimmed
trim_behind [] x m other = left_other x (trimmed m) other
trim_behind (y ∷ l) x m other = ap (left_with y) (trim_behind l x m other) ∙ left_some y l x (trimmed m)

-- where something else ends them, nothing is dropped
pub trim_other : (l : List Character) (x : Character) → is_plain_cr x ≡ false → trimmed (l ++ (x ∷ [])) ≡ l ++ (x ∷ [])
unfolding trimmed
trim_other l x other = trim_behind l x [] other

-- CRs after some characters are dropped
pub trim_padding : (j : ℕ) (l : List Character) → trimmed (l ++ replicate j plain_cr) ≡ trimmed l
trim_padding zero l = rw (append-nil l)
trim_padding (suc j) l =
    ap trimmed (sym (append_assoc l (plain_cr ∷ []) (replicate j plain_cr))) ∙ trim_padding j (l ++ (plain_cr ∷ [])) ∙ trim_cr l

rest_with : (x : Character) (l m : List Character) → l ≡ m ++ replicate (length l - length m) plain_cr
    → x ∷ l ≡ left_with x m ++ replicate (length (x ∷ l) - length (left_with x m)) plain_cr
unfolding left_with
rest_with x l [] e =
    true_or_false (is_plain_cr x)
    (λ yes_cr. rw yes_cr (simp sub-zero (ap (λ (y : Character). y ∷ l) (is_plain_cr_lem x yes_cr) ∙ ap (◌∷◌ plain_cr) (simp sub-zero at e))))
    (λ other. rw other (ap (◌∷◌ x) (rw suc-sub-suc e)))
rest_with x l (y ∷ m) e = ap (◌∷◌ x) (rw suc-sub-suc e)

-- what is dropped is CRs only
pub trim_rest : (l : List Character) → l ≡ trimmed l ++ replicate (length l - length (trimmed l)) plain_cr
unfolding trimmed
trim_rest [] = refl
trim_rest (x ∷ l) = rest_with x l (trimmed l) (trim_rest l)

pub trim_length : (l : List Character) → length (trimmed l) ≤ length l
trim_length l = omega (arith, simp length-append at (ap length (trim_rest l)))

pub take_last : {A : Type 0} (l : List A) (n : ℕ) (d : A) → 0 < n → n ≤ length l → take n l ≡ take (n - 1) l ++ (get_or l (n - 1) d ∷ [])
take_last l n d p h =
    let e : suc (n - 1) ≡ n = omega arith in
    rw e at (take-suc l (n - 1) d (omega arith))

all_plain : (d : Character) (l : List Character) → ((k : ℕ) → k < length l → is_plain_cr (get_or l k d) ≡ true) → l ≡ replicate (length l) plain_cr
all_plain d [] each = refl
all_plain d (x ∷ l) each =
    ap (λ (y : Character). y ∷ l) (is_plain_cr_lem x (each 0 (omega arith)))
    ∙ ap (◌∷◌ plain_cr) (all_plain d l (λ k h. each (suc k) (omega arith)))

-- where the characters from n on are CRs, and nothing would be dropped of those before, these are left
pub trim_at : (d : Character) (l : List Character) (n : ℕ) → ((k : ℕ) → k < length (drop n l) → is_plain_cr (get_or (drop n l) k d) ≡ true)
    → trimmed (take n l) ≡ take n l → trimmed l ≡ take n l
trim_at d l n each kept =
    ap trimmed (sym (take-append-drop n l) ∙ ap (λ (m : List Character). take n l ++ m) (all_plain d (drop n l) each))
    ∙ trim_padding (length (drop n l)) (take n l)
    ∙ kept

-- what is left is the beginning
pub trim_front : (l : List Character) → take (length (trimmed l)) l ≡ trimmed l
trim_front l =
    ap (take (length (trimmed l))) (trim_rest l)
    ∙ take_at (trimmed l) (replicate (length l - length (trimmed l)) plain_cr) (length (trimmed l)) refl

-- what is left doesn't end in a CR, since that would be dropped too
pub trim_ends : (l : List Character) (d : Character) → 0 < length (trimmed l) → is_plain_cr (get_or l (length (trimmed l) - 1) d) ≡ false
trim_ends l d some =
    true_or_false (is_plain_cr (get_or l (length (trimmed l) - 1) d))
    (λ e.
    let k = length (trimmed l) in
    let fewer : trimmed l ≡ trimmed (take (k - 1) l) =
    ap trimmed (trim_rest l) ∙ trim_padding (length l - k) (trimmed l)
    ∙ ap trimmed (sym (trim_front l) ∙ take_last l k d some (trim_length l) ∙ ap (λ (y : Character). take (k - 1) l ++ (y ∷ [])) (is_plain_cr_lem _ e))
    ∙ trim_cr (take (k - 1) l) in
    absurd (omega (arith, ap length fewer, trim_length (take (k - 1) l), length-take-le (k - 1) l (omega (arith, trim_length l)))))
    (λ e. e)
