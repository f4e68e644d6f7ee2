-- Laws of the sameness of pages, and of what page parameters are read as. What rests on sameness in other crates rests on these alone.
use Rattle.laws.proofs.Base.{◌≡◌, refl, sym, ◌∙◌, Bool, ◌||◌, or-true, false≢true, inl, inr, ⊎_elim, ℕ, ◌/◌, ◌%◌, ◌≤◌, ◌<◌, pos_of_ne-zero, arith, lit<, eqb, eq-eqb, ne_eqb, eqb-true, eqb-false}
use Rattle.laws.proofs.Tests.{true_or_false, both}
use Rattle.page.specs.Paper.{Name, parameter_read, same_page}
use Rattle.page.specs.Coded.{key_of}
pub use Rattle.page.specs.Claims.{Same, Small}
use Rattle.page.specs.Claims.{ZeroHalf, SameDecided, SameReflexive, SameSymmetric, SameTransitive, SameIdentifier}
use Rattle.page.specs.Claims.{ParametersRead, same_page_in01, Follows, SamenessSettled, KeySame}

-- a parameter with a zero half is read as 11, every other as it was sent
pub read_zero : (p : ℕ) → ZeroHalf p → parameter_read p ≡ 0x11
read_zero p (inl e) = rw (eq-eqb (p / 16) 0 e)
read_zero p (inr e) = rw (eq-eqb (p % 16) 0 e, or-true (eqb (p / 16) 0))

pub read_sent : (p : ℕ) → (ZeroHalf p → ⊥) → parameter_read p ≡ p
read_sent p h = rw (ne_eqb (p / 16) 0 (λ e. h (inl e)), ne_eqb (p % 16) 0 (λ e. h (inr e)))

-- what follows where a parameter has a zero half, and where it has none
zero_or_not : {C : Type 0} (p : ℕ) → (ZeroHalf p → C) → ((ZeroHalf p → ⊥) → C) → C
zero_or_not p f g =
    true_or_false (eqb (p / 16) 0)
    (λ a. f (inl (eqb-true (p / 16) 0 a)))
    (λ a.
    true_or_false (eqb (p % 16) 0)
    (λ b. f (inr (eqb-true (p % 16) 0 b)))
    (λ b. g (⊎_elim (eqb-false (p / 16) 0 a) (eqb-false (p % 16) 0 b))))

-- neither half of what is read is 0
pub read_halves : (p : ℕ) → (1 ≤ parameter_read p / 16) × (1 ≤ parameter_read p % 16)
read_halves p =
    zero_or_not p
    (λ z. rw (read_zero p z) (omega arith, omega arith))
    (λ h. rw (read_sent p h) (pos_of_ne-zero (λ e. h (inl e)), pos_of_ne-zero (λ e. h (inr e))))

-- an octet is read as an octet
read_below : (p : ℕ) → p < 0x100 → parameter_read p < 0x100
read_below p l = true_or_false (eqb (p / 16) 0 || eqb (p % 16) 0) (λ e. rw e (lit< tt)) (λ e. rw e l)

-- every part that tells a page is equal
record Equal (a b : Name) : Type 0 where
  serial : a.serial ≡ b.serial
  id : a.id ≡ b.id
  parameter : parameter_read a.parameter ≡ parameter_read b.parameter

equal : (a b : Name) → Same a b → Equal a b
unfolding same_page
equal a b h =
    let s = both (eqb a.serial b.serial) _ h in
    let t = both (eqb a.id b.id) _ s.1 in
    record { serial = eqb-true _ _ s.0; id = eqb-true _ _ t.0; parameter = eqb-true _ _ t.1 }

alike : (a b : Name) → Equal a b → Same a b
unfolding same_page
alike a b h = simp (eq-eqb _ _ h.serial, eq-eqb _ _ h.id, eq-eqb _ _ h.parameter)

pub same_decided : SameDecided
same_decided a b = true_or_false (same_page a b) inl (λ e. inr (λ h. false≢true (sym e ∙ h)))

pub same_reflexive : SameReflexive
same_reflexive a = alike a a (record { serial = refl; id = refl; parameter = refl })

pub same_symmetric : SameSymmetric
same_symmetric a b h =
    let e = equal a b h in
    alike b a (record { serial = sym e.serial; id = sym e.id; parameter = sym e.parameter })

pub same_transitive : SameTransitive
same_transitive a b c h k =
    let e = equal a b h in
    let f = equal b c k in
    alike a c (record { serial = e.serial ∙ f.serial; id = e.id ∙ f.id; parameter = e.parameter ∙ f.parameter })

pub same_identifier : SameIdentifier
same_identifier a b h = (equal a b h).id

pub parameters_read : ParametersRead
parameters_read = refl

-- a page with its parameter as it is read is the same page
pub same_as_read : (s i p : ℕ) (b : Name) → same_page (record { serial = s; id = i; parameter = parameter_read p }) b ≡ same_page (record { serial = s; id = i; parameter = p }) b
unfolding same_page
same_as_read s i p b = true_or_false (eqb (p / 16) 0 || eqb (p % 16) 0) (λ e. simp e) (λ e. simp e)

follows : Follows same_page
unfolding same_page same_page_in01
follows =
    record {
      symmetric = λ a b.
          true_or_false (same_page a b)
          (λ e. e ∙ sym (same_symmetric a b e)) (λ e. true_or_false (same_page b a) (λ f. same_symmetric b a f ∙ sym f) (λ f. e ∙ sym f));
      zero = λ s i p z b. rw (read_zero p z);
      others = λ a b h k. rw (read_sent a.parameter h, read_sent b.parameter k);
    }

-- any two samenesses that follow the documents are equal: first where one page has no zero half, then everywhere
module _ (q r : Name → Name → Bool) (f : Follows q) (g : Follows r) where
  abbrev single : Name → Name
  single a = record { serial = a.serial; id = a.id; parameter = 0x11 }

  single_whole : ZeroHalf 0x11 → ⊥
  single_whole (inl e) = omega arith
  single_whole (inr e) = omega arith

  agree_whole : (a b : Name) → (ZeroHalf a.parameter → ⊥) → q a b ≡ r a b
  agree_whole a b h =
      zero_or_not b.parameter
      (λ z.
      f.symmetric a b
      ∙ f.zero b.serial b.id b.parameter z a
      ∙ f.others (single b) a single_whole h
      ∙ sym (g.others (single b) a single_whole h)
      ∙ sym (g.zero b.serial b.id b.parameter z a)
      ∙ g.symmetric b a)
      (λ k. f.others a b h k ∙ sym (g.others a b h k))

  agree : (a b : Name) → q a b ≡ r a b
  agree a b =
      zero_or_not a.parameter
      (λ z.
      f.zero a.serial a.id a.parameter z b
      ∙ agree_whole (single a) b single_whole
      ∙ sym (g.zero a.serial a.id a.parameter z b))
      (agree_whole a b)

pub sameness_settled : SamenessSettled
sameness_settled = record { follows = follows; only = λ r g a b. agree r same_page g follows a b }

pub key_same : KeySame
unfolding key_of
key_same a b s t =
    true_or_false (same_page a b)
    (λ e. let q = equal a b e in rw e (eq-eqb (key_of a) (key_of b) (omega arith)))
    (λ e.
    let differ : key_of a ≡ key_of b → ⊥ =
    λ k. false≢true (sym e ∙ alike a b (record { serial = omega arith; id = omega arith; parameter = omega arith }))
    in
    rw e (ne_eqb (key_of a) (key_of b) differ))

-- a key has 40 bits, so there is room beside it
pub key_below : (n : Name) → Small n → n.parameter < 0x100 → key_of n < 0x10000000000
unfolding key_of
key_below n s l = omega (arith, read_below n.parameter l)
