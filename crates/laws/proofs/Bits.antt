-- The bits of a list of digits are those of its number.
use Rattle.laws.proofs as own
use own.Base.{◌≡◌, ap, ◌∙◌, List, [], ◌∷◌, ℕ, zero, suc, ◌+◌, ◌*◌, ◌-◌, ◌/◌, ◌%◌, ◌^◌, ◌<◌, zero-add, zero-div, zero-mod, pow-zero, pow-succ', div-one, div-div-eq-div-mul}
use own.Base.{add-mul-mod_self_left, add-mul-div_left, mod-lt, mod-eq_of_lt, div-eq_of_lt, div-add-mod, le_of_suc-le-suc, not-suc-le-zero, arith, get_or}
use lib.Pow.{shr-shr, field, mod-mod-pow}
use Rattle.laws.specs.Radix.{value, digits, Below, bit}
use own.Radix.{below_tail, power_bits}

-- a digit of a number
get_d_digits : (b n v j : ℕ) → j < n → get_or (digits b n v) j 0 ≡ v / b ^ j % b
unfolding digits
get_d_digits b zero v j h = absurd (not-suc-le-zero h)
get_d_digits b (suc n) v zero h = rw (pow-zero, div-one)
get_d_digits b (suc n) v (suc j) h = get_d_digits b n (v / b) j (le_of_suc-le-suc h) ∙ rw (pow-succ', div-div-eq-div-mul)

-- an entry of a list of digits, past its end too
get_d_value : (b : ℕ) (xs : List ℕ) (j : ℕ) → Below b xs → get_or xs j 0 ≡ value b xs / b ^ j % b
unfolding value
get_d_value b [] j h = rw (zero-div, zero-mod)
get_d_value b (x ∷ xs) zero h = rw (pow-zero, div-one, add-mul-mod_self_left, mod-eq_of_lt (h 0))
get_d_value b (x ∷ xs) (suc j) h =
    let p : 0 < b = omega (arith, h 0) in
    get_d_value b xs j (below_tail b x xs h)
    ∙ rw (pow-succ', ← div-div-eq-div-mul, add-mul-div_left x (value b xs) p, div-eq_of_lt (h 0), zero-add)

-- bit m of v, by way of the entry of q bits that holds it
entry_bit : (q m v e : ℕ) → 0 < q → e ≡ v / (2 ^ q) ^ (m / q) % 2 ^ q → e / 2 ^ (m % q) % 2 ≡ v / 2 ^ m % 2
entry_bit q m v e pos h =
    let r : ℕ = m % q in
    let k : ℕ = q - 1 - r in
    let a : ℕ = v / 2 ^ (q * (m / q)) in
    let split : q ≡ k + 1 + r = omega (arith, mod-lt m pos) in
    let entry : e ≡ a % 2 ^ (k + 1 + r) =
    h ∙ ap (λ (x : ℕ). v / x % 2 ^ q) (power_bits q (m / q)) ∙ ap (λ (x : ℕ). a % 2 ^ x) split in
    let place : a / 2 ^ r ≡ v / 2 ^ m = shr-shr v (q * (m / q)) r ∙ ap (λ (x : ℕ). v / 2 ^ x) (div-add-mod m q) in
    ap (λ (x : ℕ). x / 2 ^ r % 2) entry
    ∙ ap (λ (x : ℕ). x % 2) (field a (k + 1) r)
    ∙ mod-mod-pow (a / 2 ^ r) k 1
    ∙ ap (λ (x : ℕ). x % 2) place

pub bit_digits : (q n v m : ℕ) → 0 < q → m / q < n → bit q (digits (2 ^ q) n v) m ≡ v / 2 ^ m % 2
bit_digits q n v m pos h = entry_bit q m v _ pos (get_d_digits (2 ^ q) n v (m / q) h)

pub bit_value : (q m : ℕ) (xs : List ℕ) → 0 < q → Below (2 ^ q) xs → bit q xs m ≡ value (2 ^ q) xs / 2 ^ m % 2
bit_value q m xs pos low = entry_bit q m (value (2 ^ q) xs) _ pos (get_d_value (2 ^ q) xs (m / q) low)
