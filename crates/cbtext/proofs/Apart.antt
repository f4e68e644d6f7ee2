-- No two texts are told by the same octets: the first octet of a character tells its form, and its form tells where it ends.
use Rattle.laws.proofs.Base.{◌≡◌, refl, sym, ap, ◌∙◌, List, [], ◌∷◌, ◌++◌, ℕ, ◌+◌, ◌/◌, ◌%◌, ◌<◌, ◌≤◌, arith, cond, eqb, length, length-append, eqb-true, eqb-false, get_or, drop, lit<}
use Rattle.laws.proofs.Tests.{true_or_false, le_or_lt}
use Rattle.cbtext.specs.Paper.{letter, character, joined}
use Rattle.cbtext.specs.Claims.{TextsApart}
use Rattle.cbtext.proofs.Characters.{character_plain, character_marked, utf8_one, utf8_two, utf8_three}

-- a letter tells its character
unlettered : ℕ → ℕ
unlettered m = cond (eqb m 110) 0x0a (cond (eqb m 102) 0x0c (cond (eqb m 114) 0x0d 92))

letter_back : (c : ℕ) → (letter c ≡ 0 → ⊥) → unlettered (letter c) ≡ c
unfolding letter unlettered
letter_back c ne =
    true_or_false (eqb c 0x0a) (λ e. rw e (sym (eqb-true c 0x0a e))) (λ a.
    true_or_false (eqb c 0x0c) (λ e. rw (a, e) (sym (eqb-true c 0x0c e))) (λ b.
    true_or_false (eqb c 0x0d) (λ e. rw (a, b, e) (sym (eqb-true c 0x0d e))) (λ d.
    true_or_false (eqb c 92) (λ e. rw (a, b, d, e) (sym (eqb-true c 92 e))) (λ e.
    absurd (ne (rw (a, b, d, e)))))))

-- a backslash has a letter
plain_slash : (c : ℕ) → letter c ≡ 0 → c ≡ 92 → ⊥
unfolding letter
plain_slash c z e = omega (arith, rw e at z)

-- the four forms of a character
data Form (c : ℕ) : Type 0 where
  marked : (letter c ≡ 0 → ⊥) → character c ≡ 92 ∷ letter c ∷ [] → Form c
  one : (c ≡ 92 → ⊥) → c < 0x80 → character c ≡ c ∷ [] → Form c
  two : 0x80 ≤ c → c < 0x800 → character c ≡ (0xc0 + c / 64) ∷ (0x80 + c % 64) ∷ [] → Form c
  three : 0x800 ≤ c → character c ≡ (0xe0 + c / 4096) ∷ (0x80 + c / 64 % 64) ∷ (0x80 + c % 64) ∷ [] → Form c

form : (c : ℕ) → Form c
form c =
    true_or_false (eqb (letter c) 0)
    (λ e.
    let z = eqb-true (letter c) 0 e in
    le_or_lt 0x80 c
    (λ h. le_or_lt 0x800 c (λ l. three l (character_plain c z ∙ utf8_three c l)) (λ l. two h l (character_plain c z ∙ utf8_two c h l)))
    (λ h. one (plain_slash c z) h (character_plain c z ∙ utf8_one c h)))
    (λ e. let ne = eqb-false (letter c) 0 e in marked ne (character_marked c ne))

-- octet k of what begins with a character
at : (k : ℕ) {l m : List ℕ} → l ≡ m → get_or l k 0 ≡ get_or m k 0
at k e = ap (λ (l : List ℕ). get_or l k 0) e

module _ (x y : ℕ) (s t : List ℕ) (q : character x ++ s ≡ character y ++ t) where
  -- the same, by the octets of the two
  told : {l m : List ℕ} → character x ≡ l → character y ≡ m → l ++ s ≡ m ++ t
  told e f = sym (ap (λ (o : List ℕ). o ++ s) e) ∙ q ∙ ap (λ (o : List ℕ). o ++ t) f

  first_apart : Form x → Form y → (x ≡ y) × (s ≡ t)
  first_apart (marked a e) (marked b f) =
      let w = told e f in
      (sym (letter_back x a) ∙ ap unlettered (at 1 w) ∙ letter_back y b, ap (drop 2) w)
  first_apart (one a h e) (one b l f) = let w = told e f in (at 0 w, ap (drop 1) w)
  first_apart (two g h e) (two k l f) = let w = told e f in (omega (arith, at 0 w, at 1 w), ap (drop 2) w)
  first_apart (three h e) (three l f) =
      let w = told e f in
      let high : x / 64 ≡ y / 64 = omega (arith, at 0 w, at 1 w) in
      (omega (arith, high, at 2 w), ap (drop 3) w)
  first_apart (marked a e) (one b l f) = absurd (b (sym (at 0 (told e f))))
  first_apart (marked a e) (two k l f) = absurd (omega (arith, at 0 (told e f)))
  first_apart (marked a e) (three l f) = absurd (omega (arith, at 0 (told e f)))
  first_apart (one a h e) (marked b f) = absurd (a (at 0 (told e f)))
  first_apart (one a h e) (two k l f) = absurd (omega (arith, at 0 (told e f), h))
  first_apart (one a h e) (three l f) = absurd (omega (arith, at 0 (told e f), h))
  first_apart (two g h e) (marked b f) = absurd (omega (arith, at 0 (told e f)))
  first_apart (two g h e) (one b l f) = absurd (omega (arith, at 0 (told e f), l))
  first_apart (two g h e) (three l f) = absurd (omega (arith, at 0 (told e f), h))
  first_apart (three h e) (marked b f) = absurd (omega (arith, at 0 (told e f)))
  first_apart (three h e) (one b l f) = absurd (omega (arith, at 0 (told e f), l))
  first_apart (three h e) (two k l f) = absurd (omega (arith, at 0 (told e f), l))

-- no character is told by nothing
some : (c : ℕ) → Form c → 0 < length (character c)
some c (marked _ e) = rw e (lit< tt)
some c (one _ _ e) = rw e (lit< tt)
some c (two _ _ e) = rw e (lit< tt)
some c (three _ e) = rw e (lit< tt)

pub texts_apart : TextsApart
unfolding joined
texts_apart [] [] q = refl
texts_apart [] (y ∷ t) q = absurd (omega (arith, some y (form y), length-append (character y) (joined character t), ap length q))
texts_apart (x ∷ s) [] q = absurd (omega (arith, some x (form x), length-append (character x) (joined character s), ap length q))
texts_apart (x ∷ s) (y ∷ t) q =
    let w = first_apart x y (joined character s) (joined character t) q (form x) (form y) in
    λ i. w.0 i ∷ texts_apart s t w.1 i
