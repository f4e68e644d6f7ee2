-- Laws of numbers in decimal and to base 16: how many digits they have, and how the code writes them.
use Rattle.laws.proofs.Base.{◌≡◌, refl, sym, ap, ◌∙◌, Bool, true, false, List, [], ◌∷◌, ◌++◌, append_assoc, ℕ, zero, suc, ◌+◌, ◌*◌, ◌-◌, ◌/◌, ◌%◌, ◌^◌, ◌≤◌, ◌<◌, pow-suc}
use Rattle.laws.proofs.Base.{one-le-pow, pow-le-pow_right, mod-lt, mod-eq_of_lt, le-div_iff_mul-le, div-lt_iff_lt-mul, add-zero, arith, length, take, drop, set, length-append}
use Rattle.laws.proofs.Base.{length-set, take-append-drop, drop-cons, get_or-set_same, take-set-le, drop-set-lt, take-take, ltb, leb, lit<, lt-ltb, le-ltb, leb-true, leb-false}
use Rattle.io.specs.Digits.{hex_digit_ascii, last_digits, IsDigitCount}
use Rattle.lines.specs.Paper.{spelled, hex_digit, hexadecimal, behind}
use Rattle.lines.proofs.Behind.{behind_fits}

glyph_digit : (n : ℕ) → hex_digit_ascii (n % 10) ≡ 48 + n % 10
glyph_digit n = rw (lt-ltb (n % 10) 10 (mod-lt n (lit< tt)))

-- the fewest digits of a number are its decimal
pub spelled_digits : (f k n : ℕ) → k ≤ suc f → IsDigitCount 10 1 n k → last_digits 10 k n ≡ spelled f n
unfolding spelled
spelled_digits f zero n h w = absurd (omega (arith, w.0))
spelled_digits zero (suc zero) n h w = ap (λ (d : ℕ). d ∷ []) (glyph_digit n)
spelled_digits (suc f) (suc zero) n h w =
    let small : n < 10 = w.1 in
    rw (lt-ltb n 10 small, glyph_digit n, mod-eq_of_lt small)
spelled_digits zero (suc (suc k)) n h w = absurd (omega arith)
spelled_digits (suc f) (suc (suc k)) n h w =
    let less : suc (suc k) - 1 ≡ suc k = omega arith in
    let least : suc k - 1 ≡ k = omega arith in
    let low : 10 ^ k * 10 ≤ n = rw (less, pow-suc 10 k) at (w.2 (omega arith)) in
    let high : n < 10 ^ suc k * 10 = rw (pow-suc 10 (suc k)) at w.1 in
    let big : 10 ≤ n = omega (arith, one-le-pow k 10 (lit< tt)) in
    let fewer : IsDigitCount 10 1 (n / 10) (suc k) =
    (omega arith, (div-lt_iff_lt-mul (lit< tt)).1 high, λ more. rw least ((le-div_iff_mul-le (lit< tt)).1 low)) in
    rw (le-ltb n 10 big, glyph_digit n, spelled_digits f (suc k) (n / 10) (omega arith) fewer)

-- a number of 64 bits has at most twenty digits
pub twenty_digits : (k n : ℕ) → n < 2 ^ 64 → IsDigitCount 10 1 n k → k ≤ 20
twenty_digits k n h w = go (leb k 20) refl
  where
    go : (b : Bool) → leb k 20 ≡ b → k ≤ 20
    go true e = leb-true k 20 e
    go false e =
        let over = leb-false k 20 e in
        let far : 20 ≤ k - 1 = omega arith in
        let more : 10 ^ 20 ≤ 10 ^ (k - 1) = pow-le-pow_right (lit< tt) far in
        absurd (omega (arith, w.2 (omega arith)))

-- a decimal is no longer than it may be
pub length_spelled : (k n : ℕ) → length (spelled k n) ≤ suc k
unfolding spelled
length_spelled zero n = omega arith
length_spelled (suc k) n = go (ltb n 10) refl (length_spelled k (n / 10))
  where
    go : (b : Bool) → ltb n 10 ≡ b → length (spelled k (n / 10)) ≤ suc k → length (spelled (suc k) n) ≤ suc (suc k)
    go true e h = rw e (omega arith)
    go false e h = rw (e, length-append) (omega arith)

pub length_hexadecimal : (k n : ℕ) → length (hexadecimal k n) ≡ k
unfolding hexadecimal
length_hexadecimal zero n = refl
length_hexadecimal (suc k) n = rw (length-append, length_hexadecimal k (n / 16)) (omega arith)

-- what holds while digits are written from the lowest up: i of k are left, those of rest
pub record Written (number k n : ℕ) (t₀ t : List ℕ) (i rest : ℕ) : Type 0 where
  pub size : length t ≡ length t₀
  pub few : i ≤ k
  pub front : take (n + i) t ≡ take (n + i) t₀
  pub back : hexadecimal k number ++ drop (n + k) t₀ ≡ hexadecimal i rest ++ drop (n + i) t

module _ (number k n : ℕ) (t₀ t : List ℕ) (fits : n + k ≤ length t₀) where
  -- one digit more
  pub written_turn : (i rest : ℕ) → Written number k n t₀ t i rest → 0 < i
      → Written number k n t₀ (set t (n + (i - 1)) (hex_digit (rest % 16))) (i - 1) (rest / 16)
  unfolding hexadecimal
  written_turn zero rest w h = absurd (omega arith)
  written_turn (suc j) rest w h =
      let one : suc j - 1 ≡ j = omega arith in
      let place : n + suc j ≡ suc (n + j) = omega arith in
      let inside : n + j < length t = omega (arith, w.size, w.few) in
      let d : ℕ = hex_digit (rest % 16) in
      let t' : List ℕ = set t (n + j) d in
      let long : n + j < length t' = rw (length-set t (n + j) d) inside in
      let rear : drop (n + j) t' ≡ d ∷ drop (suc (n + j)) t =
      drop-cons t' (n + j) 0 long ∙ rw (get_or-set_same t (n + j) d 0 inside, drop-set-lt (suc (n + j)) t (n + j) d (omega arith)) in
      let back : hexadecimal k number ++ drop (n + k) t₀ ≡ (hexadecimal j (rest / 16) ++ (d ∷ [])) ++ drop (suc (n + j)) t = rw place at w.back in
      let front : take (suc (n + j)) t ≡ take (suc (n + j)) t₀ = rw place at w.front in
      rw one
      record {
        size = length-set t (n + j) d ∙ w.size;
        few = omega (arith, w.few);
        front =
            take-set-le (n + j) t (n + j) d (omega arith)
            ∙ sym (take-take (n + j) (suc (n + j)) t (omega arith))
            ∙ ap (take (n + j)) front
            ∙ take-take (n + j) (suc (n + j)) t₀ (omega arith);
        back = back ∙ append_assoc (hexadecimal j (rest / 16)) (d ∷ []) (drop (suc (n + j)) t) ∙ rw rear;
      }

  -- all digits are written
  pub written_end : (i rest : ℕ) → Written number k n t₀ t i rest → i ≡ 0 → record { end = n + k; text = t } ≡ behind (hexadecimal k number) n t₀
  unfolding hexadecimal
  written_end i rest w none =
      let size = length_hexadecimal k number in
      let front : take n t ≡ take n t₀ = rw (none, add-zero n) at w.front in
      let back : hexadecimal k number ++ drop (n + k) t₀ ≡ drop n t = rw (none, add-zero n) at w.back in
      let whole : t ≡ take n t₀ ++ (hexadecimal k number ++ drop (n + k) t₀) = rw (← front, back) (sym (take-append-drop n t)) in
      sym (behind_fits (hexadecimal k number) n t₀ (rw size fits) ∙ rw size (ap (λ (l : List ℕ). record { end = n + k; text = l }) (sym whole)))
