-- What a list of tests settles, whatever the answers that hang on it.
use Rattle.laws.proofs as own
use own.Base.{◌≡◌, refl, sym, ap, ◌∙◌, Bool, true, false, List, [], ◌∷◌, ◌++◌, ◌⊎◌, inl, inr, ⊎_elim, ℕ}
use Rattle.laws.specs.Ruled.{ruled}
use own.Ruled.{Among, NoneHolds}
use own.Tests.{true_or_false}

-- either every answer is that of one test's number, or no test holds and every answer is the one past the tests
pub data Outcome (ts : List (Bool × ℕ)) : Type 1 where
  refuses : (n : ℕ) → Among n ts → ((A : Type 0) (by : ℕ → A) (x : A) → ruled by ts x ≡ by n) → Outcome ts
  passes : NoneHolds ts → ((A : Type 0) (by : ℕ → A) (x : A) → ruled by ts x ≡ x) → Outcome ts

pub outcome : (ts : List (Bool × ℕ)) → Outcome ts
outcome [] = passes tt (λ A by x. refl)
outcome (t ∷ ts) = go t.0 refl (outcome ts)
  where
    go : (b : Bool) → t.0 ≡ b → Outcome ts → Outcome (t ∷ ts)
    go true e r = refuses t.1 (inl refl) (λ A by x. rw e)
    go false e (refuses n a q) = refuses n (inr a) (λ A by x. rw e (q A by x))
    go false e (passes h q) = passes (e, h) (λ A by x. rw e (q A by x))

-- tests in two lists, one after the other
pub ruled_append : {A : Type 0} (by : ℕ → A) (ts us : List (Bool × ℕ)) (x : A) → ruled by (ts ++ us) x ≡ ruled by ts (ruled by us x)
ruled_append by [] us x = refl
ruled_append by (t ∷ ts) us x = rw (ruled_append by ts us x)

-- a number that none of the first tests has answers only where none of them holds
pub ruled_past : (ts us : List (Bool × ℕ)) (x n : ℕ) → (Among n ts → ⊥) → ruled (λ (k : ℕ). k) (ts ++ us) x ≡ n → NoneHolds ts × (ruled (λ (k : ℕ). k) us x ≡ n)
ruled_past [] us x n h e = (tt, e)
ruled_past (t ∷ ts) us x n h e =
    true_or_false t.0
    (λ q. absurd (h (inl (sym (rw q at e)))))
    (λ q. let w = ruled_past ts us x n (λ a. h (inr a)) (rw q at e) in ((q, w.0), w.1))

-- n is the number of one of the tests, and that test holds
abbrev pub Because : ℕ → List (Bool × ℕ) → Type 0
Because n [] = ⊥
Because n (t ∷ ts) = ((n ≡ t.1) × (t.0 ≡ true)) ⊎ Because n ts

-- the number that tests answer by is that of a test that holds, or the one past the tests
pub ruled_because : (ts : List (Bool × ℕ)) (x n : ℕ) → ruled (λ (k : ℕ). k) ts x ≡ n → (x ≡ n) ⊎ Because n ts
ruled_because [] x n e = inl e
ruled_because (t ∷ ts) x n e =
    true_or_false t.0
    (λ q. inr (inl (sym (rw q at e), q)))
    (λ q. ⊎_elim (λ h. inl h) (λ h. inr (inr h)) (ruled_because ts x n (rw q at e)))

-- tests that answer by a number other than 0 refuse by it, whatever is given past them
pub ruled_refuses : (ts : List (Bool × ℕ)) (n : ℕ) → ruled (λ (k : ℕ). k) ts 0 ≡ n → (n ≡ 0 → ⊥) → (A : Type 0) (by : ℕ → A) (x : A) → ruled by ts x ≡ by n
ruled_refuses ts n e k A by x = go (outcome ts)
  where
    go : Outcome ts → ruled by ts x ≡ by n
    go (refuses m a q) = q A by x ∙ ap by (sym (q ℕ (λ (j : ℕ). j) 0) ∙ e)
    go (passes h q) = absurd (k (sym e ∙ q ℕ (λ (j : ℕ). j) 0))
