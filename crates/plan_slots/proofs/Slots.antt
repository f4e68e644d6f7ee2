-- Laws of the slots of a page. Of the sameness of pages they use only that it is decided, an equivalence, and keeps the identifier.
use Rattle.laws.proofs.Base.{◌≡◌, refl, sym, ◌∙◌, Bool, true, false, not, false≢true, ℕ, suc, ◌≤◌, ◌<◌, arith, eqb, length, get_or, eqb-true, eq-eqb}
use Rattle.laws.proofs.Search.{found_some, Found, none_passes, first_passes, searched, some_agree, first_agree}
use Rattle.laws.proofs.Tests.{both}
use Rattle.page.specs.Paper.{Name, same_page}
use Rattle.page.proofs.Sameness.{Same, same_reflexive, same_symmetric, same_transitive, same_identifier}
use Rattle.plan.specs.Paper.{Entry, Plan, free, entries_within}
use Rattle.plan_slots.specs.Paper.{page_of, holds, lowest_slot, has_page}

-- an entry that holds a page is one of kind 2 whose page is the same
pub holds_kind : (x : Name) (e : Entry) → holds x e ≡ true → (e.kind ≡ 2) × Same (page_of e) x
unfolding holds
holds_kind x e h = let b = both (eqb e.kind 2) (same_page (page_of e) x) h in (eqb-true e.kind 2 b.0, b.1)

kind_holds : (x : Name) (e : Entry) → e.kind ≡ 2 → Same (page_of e) x → holds x e ≡ true
unfolding holds
kind_holds x e k s = simp (eq-eqb e.kind 2 k, s)

-- an entry of kind 2 holds its own page
pub holds_own : (e : Entry) → e.kind ≡ 2 → holds (page_of e) e ≡ true
holds_own e k = kind_holds (page_of e) e k (same_reflexive (page_of e))

-- what an entry holds has its identifier
pub holds_identifier : (x : Name) (e : Entry) → holds x e ≡ true → e.id ≡ x.id
holds_identifier x e h = same_identifier (page_of e) x (holds_kind x e h).1

moves : (x y : Name) (e : Entry) → Same x y → holds x e ≡ true → holds y e ≡ true
moves x y e s h = let k = holds_kind x e h in kind_holds y e k.0 (same_transitive (page_of e) x y k.1 s)

module _ (x y : Name) (s : Same x y) where
  -- an entry that holds a page holds every page that is the same
  pub holds_same : (e : Entry) → holds x e ≡ holds y e
  holds_same e = go (holds x e) (holds y e) refl refl
    where
      go : (a b : Bool) → holds x e ≡ a → holds y e ≡ b → a ≡ b
      go true b p q = sym (moves x y e s p) ∙ q
      go false true p q = sym p ∙ moves y x e (same_symmetric x y s) q
      go false false p q = refl

  -- the same page has the same lowest slot, and is in the same plans
  pub lowest_same : (p : Plan) → lowest_slot p x ≡ lowest_slot p y
  unfolding lowest_slot
  lowest_same p = first_agree (holds x) (holds y) holds_same 1 (entries_within p)

  pub has_same : (p : Plan) → has_page p x ≡ has_page p y
  unfolding has_page
  has_same p = some_agree (holds x) (holds y) holds_same (entries_within p)

module _ (p : Plan) (x : Name) where
  -- the slot after i others is within the count and holds the page
  pub record Has (i : ℕ) : Type 0 where
    pub inside : i < length (entries_within p)
    pub holding : holds x (get_or (entries_within p) i free) ≡ true

  -- no slot holds the page, or one does and none below it
  pub lowest_slot_lem : Found (holds x) free 1 (entries_within p) (lowest_slot p x)
  unfolding lowest_slot
  lowest_slot_lem = searched (holds x) free 1 (entries_within p)

  -- a slot that holds the page is no lower than the lowest
  pub lowest_reached : (i : ℕ) → Has i → (0 < lowest_slot p x) × (lowest_slot p x ≤ suc i)
  lowest_reached i h = go (lowest_slot p x) lowest_slot_lem
    where
      go : (s : ℕ) → Found (holds x) free 1 (entries_within p) s → (0 < s) × (s ≤ suc i)
      go s (none_passes e none) = absurd (false≢true (sym (none i h.inside) ∙ h.holding))
      go s (first_passes k e l q none) =
          let least : i < k → ⊥ = λ b. false≢true (sym (none i b) ∙ h.holding) in
          (omega arith, omega arith)

  -- a plan has a page exactly where there is a lowest slot with it
  pub has_lowest : has_page p x ≡ not (eqb (lowest_slot p x) 0)
  unfolding has_page lowest_slot
  has_lowest = sym (found_some (holds x) 0 (entries_within p))
