-- Laws of `ruled`: what is done to its answer, and which of its tests answered.
use Rattle.laws.proofs as own
use own.Base.{◌≡◌, refl, sym, ◌∙◌, Bool, true, false, cond, not, ◌&&◌, List, [], ◌∷◌, ◌⊎◌, inl, inr, ℕ, eqb, eqb-false, not-true}
use Rattle.laws.specs.Ruled.{ruled, unless0}
use own.Tests.{true_or_false, both}

module _ {A B : Type 0} (f : A → B) where
  cond_map : (t : Bool) (a b : A) → f (cond t a b) ≡ cond t (f a) (f b)
  cond_map true a b = refl
  cond_map false a b = refl

  -- a function of the answer is taken into the rules
  pub ruled_map : (by : ℕ → A) (ts : List (Bool × ℕ)) (x : A) → f (ruled by ts x) ≡ ruled (λ (n : ℕ). f (by n)) ts (f x)
  ruled_map by [] x = refl
  ruled_map by (t ∷ ts) x = rw (cond_map t.0 (by t.1) (ruled by ts x), ruled_map by ts x)

-- two answers past the same tests are related, where those of each number are and those past the tests
pub ruled_related : {A B : Type 0} (R : A → B → Type 0) (by : ℕ → A) (of : ℕ → B) → ((n : ℕ) → R (by n) (of n))
    → (ts : List (Bool × ℕ)) (x : A) (y : B) → R x y → R (ruled by ts x) (ruled of ts y)
ruled_related R by of each [] x y r = r
ruled_related R by of each (t ∷ ts) x y r =
    true_or_false t.0 (λ e. rw e (each t.1)) (λ e. rw e (ruled_related R by of each ts x y r))

-- n is the number of one of the tests
abbrev pub Among : ℕ → List (Bool × ℕ) → Type 0
Among n [] = ⊥
Among n (t ∷ ts) = (n ≡ t.1) ⊎ Among n ts

-- no test holds
abbrev pub NoneHolds : List (Bool × ℕ) → Type 0
NoneHolds [] = Unit {0}
NoneHolds (t ∷ ts) = (t.0 ≡ false) × NoneHolds ts

-- either one of the tests answered by its number, or none holds and the answer is x
pub data Ruling {A : Type 0} (by : ℕ → A) (ts : List (Bool × ℕ)) (x r : A) : Type 0 where
  refuses : (n : ℕ) → Among n ts → r ≡ by n → Ruling by ts x r
  passes : NoneHolds ts → r ≡ x → Ruling by ts x r

pub ruling : {A : Type 0} (by : ℕ → A) (ts : List (Bool × ℕ)) (x : A) → Ruling by ts x (ruled by ts x)
ruling by [] x = passes tt refl
ruling {A} by (t ∷ ts) x = true_or_false t.0 (λ e. refuses t.1 (inl refl) (rw e)) (λ e. later e (ruling by ts x))
  where
    later : t.0 ≡ false → Ruling by ts x (ruled by ts x) → Ruling by (t ∷ ts) x (ruled by (t ∷ ts) x)
    later e (refuses n a q) = refuses n (inr a) (rw e q)
    later e (passes h q) = passes (e, h) (rw e q)

-- every number of the tests passes f; where the numbers are written out this is `refl`
abbrev pub numbers : (ℕ → Bool) → List (Bool × ℕ) → Bool
numbers f [] = true
numbers f (t ∷ ts) = f t.1 && numbers f ts

module _ (f : ℕ → Bool) where
  pub among_passes : (ts : List (Bool × ℕ)) → numbers f ts ≡ true → (n : ℕ) → Among n ts → f n ≡ true
  among_passes [] e n x = elim x [ ]
  among_passes (t ∷ ts) e n (inl q) = rw q (both (f t.1) (numbers f ts) e).0
  among_passes (t ∷ ts) e n (inr a) = among_passes ts (both (f t.1) (numbers f ts) e).1 n a

  -- the number of an answer passes where the tests' numbers do, and that of the answer past them
  pub ruled_passes : {A : Type 0} (number : A → ℕ) (by : ℕ → A) (ts : List (Bool × ℕ)) (x : A) → ((n : ℕ) → number (by n) ≡ n)
      → numbers f ts ≡ true → f (number x) ≡ true → f (number (ruled by ts x)) ≡ true
  ruled_passes {A} number by ts x back e past = go (ruling by ts x)
    where
      go : {r : A} → Ruling by ts x r → f (number r) ≡ true
      go (refuses n a q) = rw (q, back n) (among_passes ts e n a)
      go (passes h q) = rw q past

-- k is not among the tests' numbers
pub not_among : (k : ℕ) (ts : List (Bool × ℕ)) → numbers (λ (n : ℕ). not (eqb n k)) ts ≡ true → (n : ℕ) → Among n ts → n ≡ k → ⊥
not_among k ts e n a = eqb-false n k (not-true (eqb n k) (among_passes (λ (j : ℕ). not (eqb j k)) ts e n a))

-- each test that holds has a number other than n
abbrev pub Other : ℕ → List (Bool × ℕ) → Type 0
Other n [] = Unit {0}
Other n (t ∷ ts) = (t.0 ≡ true → t.1 ≡ n → ⊥) × Other n ts

-- so where the numbers are written out
pub others : (n : ℕ) (ts : List (Bool × ℕ)) → numbers (λ (k : ℕ). not (eqb k n)) ts ≡ true → Other n ts
others n [] e = tt
others n (t ∷ ts) e =
    let w = both (not (eqb t.1 n)) (numbers (λ (k : ℕ). not (eqb k n)) ts) e in
    ((λ h. eqb-false t.1 n (not-true (eqb t.1 n) w.0)), others n ts w.1)

-- where none holds, the answer is the one past the tests
pub ruled_none : {A : Type 0} (by : ℕ → A) (ts : List (Bool × ℕ)) (x : A) → NoneHolds ts → ruled by ts x ≡ x
ruled_none by [] x h = refl
ruled_none by (t ∷ ts) x h = rw h.0 (ruled_none by ts x h.1)

-- an answer by a number that no test has that holds was not refused
pub unrefused : {A : Type 0} (number : A → ℕ) (by : ℕ → A) → ((k : ℕ) → number (by k) ≡ k) → (ts : List (Bool × ℕ)) (x : A) (n : ℕ)
    → Other n ts → number (ruled by ts x) ≡ n → NoneHolds ts × (ruled by ts x ≡ x)
unrefused number by back ts x n g e = (none ts g e, ruled_none by ts x (none ts g e))
  where
    none : (us : List (Bool × ℕ)) → Other n us → number (ruled by us x) ≡ n → NoneHolds us
    none [] h q = tt
    none (t ∷ us) h q =
        true_or_false t.0 (λ b. absurd (h.0 b (sym (back t.1) ∙ rw b at q))) (λ b. (b, none us h.1 (rw b at q)))

-- each test that holds has a number other than 0
abbrev pub Numbered : List (Bool × ℕ) → Type 0
Numbered ts = Other 0 ts

-- an answer by 0 then says that none holds
pub none_holds : (ts : List (Bool × ℕ)) (x : ℕ) → Numbered ts → ruled (λ (n : ℕ). n) ts x ≡ 0 → NoneHolds ts
none_holds ts x g e = (unrefused (λ (n : ℕ). n) (λ (n : ℕ). n) (λ n. refl) ts x 0 g e).0

-- the answer of another call, as a test, has the number 0 only where it doesn't hold
pub unless0_numbered : (n : ℕ) → (unless0 n).0 ≡ true → (unless0 n).1 ≡ 0 → ⊥
unless0_numbered n h e = eqb-false n 0 (not-true (eqb n 0) h) e
