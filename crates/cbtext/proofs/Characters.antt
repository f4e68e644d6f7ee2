-- Laws of characters: the form of each, and entries put one behind the other.
use Rattle.laws.proofs.Base.{◌≡◌, refl, List, [], ◌∷◌, ◌++◌, map, map-append, ℕ, suc, ◌+◌, ◌/◌, ◌%◌, ◌≤◌, ◌<◌, add-one, arith, length, get_or, take, take_all, take-suc, eqb, eqb-true, eqb-false}
use Rattle.laws.proofs.Base.{eq-eqb, ne_eqb, lt-ltb, le-ltb}
use Rattle.std.specs.Prelude.{Some, None}
use Rattle.laws.proofs.Tests.{true_or_false}
use Rattle.lines.specs.Paper.{PutLeft, behind, all_behind, flat}
use Rattle.lines.proofs.Texts.{and_last, and_others}
use Rattle.cbtext.specs.Paper.{utf8, letter, character, joined}
use Rattle.cbtext.specs.Inner.{lettered}

module _ (c : ℕ) where
  pub utf8_one : c < 0x80 → utf8 c ≡ c ∷ []
  unfolding utf8
  utf8_one h = rw (lt-ltb c 0x80 h)

  pub utf8_two : 0x80 ≤ c → c < 0x800 → utf8 c ≡ (0xc0 + c / 64) ∷ (0x80 + c % 64) ∷ []
  unfolding utf8
  utf8_two h l = rw (le-ltb c 0x80 h, lt-ltb c 0x800 l)

  pub utf8_three : 0x800 ≤ c → utf8 c ≡ (0xe0 + c / 4096) ∷ (0x80 + c / 64 % 64) ∷ (0x80 + c % 64) ∷ []
  unfolding utf8
  utf8_three l =
      let h : 0x80 ≤ c = omega arith in
      rw (le-ltb c 0x80 h, le-ltb c 0x800 l)

  pub character_plain : letter c ≡ 0 → character c ≡ utf8 c
  unfolding character
  character_plain e = rw (eq-eqb (letter c) 0 e)

  pub character_marked : (letter c ≡ 0 → ⊥) → character c ≡ 92 ∷ letter c ∷ []
  unfolding character
  character_marked ne = rw (ne_eqb (letter c) 0 ne)

  -- by what the code finds
  pub character_lettered : (x : ℕ) → Some x ≡ lettered c → character c ≡ 92 ∷ x ∷ []
  unfolding lettered
  character_lettered x q =
      true_or_false (eqb (letter c) 0)
      (λ e. let z : Some x ≡ None = rw e at q in let no : ◌≡◌ {A = ℕ} 0 1 = cc in absurd (omega arith))
      (λ e.
      let z : Some x ≡ Some (letter c) = rw e at q in
      let same : x ≡ letter c = cc in
      rw same (character_marked (eqb-false (letter c) 0 e)))

  pub character_unlettered : None ≡ lettered c → character c ≡ utf8 c
  unfolding lettered
  character_unlettered q =
      true_or_false (eqb (letter c) 0)
      (λ e. character_plain (eqb-true (letter c) 0 e))
      (λ e. let z : None ≡ Some (letter c) = rw e at q in let no : ◌≡◌ {A = ℕ} 0 1 = cc in absurd (omega arith))

module _ (f : ℕ → List ℕ) (xs : List ℕ) (n : ℕ) (t : List ℕ) where
  -- entries are put one behind the other: one more
  pub each_turn : (i : ℕ) {some left : PutLeft} → some ≡ all_behind (map f (take i xs)) n t → i < length xs
      → left ≡ behind (f (get_or xs i 0)) some.end some.text → left ≡ all_behind (map f (take (i + 1) xs)) n t
  each_turn i e h q =
      let longer : map f (take (suc i) xs) ≡ map f (take i xs) ++ (f (get_or xs i 0) ∷ []) =
      rw (take-suc xs i 0 h) (map-append f (take i xs) (get_or xs i 0 ∷ [])) in
      rw (add-one i, longer) (and_others (map f (take i xs)) _ n t e (and_last _ _ _ q))

  -- and all of them
  pub each_end : (i : ℕ) {left : PutLeft} → left ≡ all_behind (map f (take i xs)) n t → length xs ≤ i → left ≡ all_behind (map f xs) n t
  each_end i e h = rw (take_all i xs h) at e

-- put together they are what f gives of each entry
pub flat_each : (f : ℕ → List ℕ) (xs : List ℕ) → flat (map f xs) ≡ joined f xs
unfolding flat joined
flat_each f [] = refl
flat_each f (x ∷ xs) = rw (flat_each f xs)
