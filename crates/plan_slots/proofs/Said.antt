-- What is said of the slots of a plan, told from the marks of it and of the plan before.
use Rattle.laws.proofs.Base.{◌≡◌, refl, sym, ap, ◌∙◌, Bool, true, false, cond, List, map, ℕ, ◌<◌, min, arith, eqb, ltb, get_or, take, replicate, get_or-replicate}
use Rattle.laws.proofs.Base.{length-map, list_get_d_map, ext_get_or, get_or-take, eqb-true, lt-ltb, ltb-true, ltb-false}
use borrow.Author.Count.{below_none}
use Rattle.laws.specs.Search.{some, first_from}
use Rattle.laws.specs.Upto.{each}
use Rattle.laws.proofs.Upto.{each_length, each_at}
use Rattle.plan_slots.specs as defs
use defs.declared.Planned.{Planned as PlannedCode}
use Rattle.plan.specs.Paper.{Plan, entry_at}
use defs.Inner.{none_planned, said_at, all_planned, nothing, said_by, Marks, searched, Says}
use defs.Paper.{Planned, planned_at, lowest_slot, has_page}
use defs.Coded.{planned_of}
use Rattle.plan_slots.proofs.Marks.{lowest_marked, some_marked}

module _ (c p : Plan) (ms qs : List ℕ) (h : Marks ms c.entries 48) (before : Marks qs p.entries 48) where
  pub searched_said : (i : ℕ) → i < min c.count 48 → searched c.entries (take (min c.count 48) ms) (take (min p.count 48) qs) i ≡ said_at c p i
  unfolding said_by said_at lowest_slot has_page
  searched_said i l = rw (lt-ltb i c.count (omega arith), get_or-take (min c.count 48) ms i 0 l) (go (eqb (entry_at c i).kind 2) refl)
    where
      m : ℕ
      m = get_or ms i 0

      go : (b : Bool) → eqb (entry_at c i).kind 2 ≡ b
          → said_by (entry_at c i) (first_from (eqb m) 1 (take (min c.count 48) ms)) (some (eqb m) (take (min p.count 48) qs))
          ≡ cond (eqb (entry_at c i).kind 2) (planned_at c p i) (none_planned (entry_at c i).kind)
      go true k =
          let two = eqb-true (entry_at c i).kind 2 k in
          let own = h.each i (omega arith) in
          rw (k, lowest_marked m (entry_at c i) own two ms c.entries h c.count, some_marked m (entry_at c i) own two qs p.entries before p.count)
      go false k = rw k

module _ (f : ℕ → Planned) where
  pub says_none : (x : PlannedCode) → planned_of x ≡ none_planned 0 → Says f (replicate 48 x) 0
  says_none x e =
      record {
        long = refl;
        said = below_none _;
        rest = λ k b m. ap planned_of (get_or-replicate 48 k x nothing b) ∙ e;
      }

module _ (c p : Plan) (xs : List PlannedCode) where
  -- the array filled up to the count
  pub says_all : (f : ℕ → Planned) → ((i : ℕ) → i < min c.count 48 → f i ≡ said_at c p i) → Says f xs (min c.count 48) → map planned_of xs ≡ all_planned c p
  unfolding all_planned said_at
  says_all f q h =
      ext_get_or (none_planned 0) (map planned_of xs) (each (said_at c p) 48) (length-map xs planned_of ∙ h.long ∙ sym (each_length (said_at c p) 48))
      (λ i l.
      let low : i < 48 = omega (arith, length-map xs planned_of, h.long) in
      list_get_d_map planned_of xs i nothing ∙ slot i low (ltb i c.count) refl ∙ sym (each_at (said_at c p) 48 i (none_planned 0) low))
    where
      slot : (i : ℕ) → i < 48 → (b : Bool) → ltb i c.count ≡ b → planned_of (get_or xs i nothing) ≡ said_at c p i
      slot i l true e = let k : i < min c.count 48 = omega (arith, ltb-true i c.count e) in h.said i k ∙ q i k
      slot i l false e = h.rest i l (omega (arith, ltb-false i c.count e)) ∙ rw e

  -- what the array says of a slot
  pub says_at : map planned_of xs ≡ all_planned c p → (i : ℕ) → i < 48 → planned_of (get_or xs i nothing) ≡ said_at c p i
  unfolding all_planned
  says_at e i l =
      sym (list_get_d_map planned_of xs i nothing)
      ∙ ap (λ (s : List Planned). get_or s i (none_planned 0)) e
      ∙ each_at (said_at c p) 48 i (none_planned 0) l
