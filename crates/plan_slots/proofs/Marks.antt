-- Marks: two entries with a page have the same one exactly if their marks are equal, so that a search among marks finds a page's slots.
use Rattle.laws.proofs.Base.{◌≡◌, refl, sym, ap, ◌∙◌, Bool, true, false, not, ◌&&◌, List, [], ◌∷◌, ℕ, zero, suc, ◌+◌, ◌<◌, min, arith, eqb, ltb, length, get_or, take, set}
use Rattle.laws.proofs.Base.{length-map, length-set, take_all, get_or-set_same, get_or-set_other, eq-eqb, ne_eqb, eqb-true, eqb-false, ltb-true, ltb-false}
use borrow.Author.Count.{below_more}
use Rattle.laws.specs.Search.{some, first_from}
use Rattle.laws.proofs.Search.{found_some}
use Rattle.page.specs.Coded.{key_of}
use Rattle.page.proofs.Sameness.{Small, key_same}
use Rattle.plan.specs.declared.Entry.{Entry as EntryCode}
use Rattle.plan.specs.Paper.{Entry, free}
use Rattle.plan_slots.specs as defs
use defs.Paper.{page_of, holds}
use Rattle.plan.specs.Coded.{entry_of, entries_of}
use defs.Inner.{Marked, Marks}
use Rattle.plan.proofs.Entries.{none, entry_at}

-- a turn of the loop that fills an array with marks
pub marks_more : (es : List EntryCode) (ms : List ℕ) (i m : ℕ) → i < length es → Marks ms (entries_of es) i
    → Marked m (entry_of (get_or es i none)) → Marks (set ms i m) (entries_of es) (i + 1)
marks_more es ms i m l h own =
    let room : i < length ms = omega (arith, h.long, h.whole, length-map es entry_of) in
    record {
      long = length-set ms i m ∙ h.long;
      whole = h.whole;
      each =
          below_more _ i (λ k b. let other : k ≡ i → ⊥ = λ e. omega arith in rw (get_or-set_other ms i k m 0 other) (h.each k b))
          (rw (get_or-set_same ms i m 0 room, entry_at es i l) own);
    }

-- none of some marks is as given where the first that is has place 0
pub lacks_mark : (m : ℕ) (ms : List ℕ) (s : ℕ) → s ≡ first_from (eqb m) 1 ms → eqb s 0 ≡ not (some (eqb m) ms)
lacks_mark m ms s e = other (eqb s 0) (some (eqb m) ms) (ap (λ (t : ℕ). not (eqb t 0)) e ∙ found_some (eqb m) 0 ms)
  where
    other : (a b : Bool) → not a ≡ b → a ≡ not b
    other true b q = ap not q
    other false b q = ap not q

module _ (m : ℕ) (a : Entry) (p : Marked m a) (two : a.kind ≡ 2) where
  -- an entry holds the page of another exactly if their marks are equal
  mark_holds : (n : ℕ) (b : Entry) → Marked n b → eqb m n ≡ holds (page_of a) b
  unfolding holds
  mark_holds n b q = rw (sym (key_same (page_of b) (page_of a) (small n b q) (small m a p))) (go (eqb b.kind 2) (eqb other own) refl refl)
    where
      small : (k : ℕ) (e : Entry) → Marked k e → Small (page_of e)
      small k e h = record { serial = h.serial; id = h.id }

      own : ℕ
      own = key_of (page_of a)

      other : ℕ
      other = key_of (page_of b)

      go : (k r : Bool) → eqb b.kind 2 ≡ k → eqb other own ≡ r → eqb m n ≡ (k && r)
      go true true e f = eq-eqb m n (omega (arith, p.marks, q.marks, eqb-true b.kind 2 e, eqb-true other own f))
      go true false e f = ne_eqb m n (λ w. eqb-false other own f (omega (arith, p.marks, q.marks, eqb-true b.kind 2 e)))
      go false r e f = ne_eqb m n (λ w. eqb-false b.kind 2 e (omega (arith, p.marks, q.marks, q.kind)))

  first_marked : (s n : ℕ) (ms : List ℕ) (es : List Entry) → length ms ≡ length es
      → ((i : ℕ) → i < length es → Marked (get_or ms i 0) (get_or es i free))
      → first_from (eqb m) s (take n ms) ≡ first_from (holds (page_of a)) s (take n es)
  unfolding first_from
  first_marked s zero ms es l h = refl
  first_marked s (suc n) [] [] l h = refl
  first_marked s (suc n) [] (e ∷ es) l h = let never : ⊥ = omega arith in absurd never
  first_marked s (suc n) (x ∷ ms) [] l h = let never : ⊥ = omega arith in absurd never
  first_marked s (suc n) (x ∷ ms) (e ∷ es) l h =
      rw (mark_holds x e (h 0 (omega arith)), first_marked (suc s) n ms es (omega arith) (λ i b. h (suc i) (omega arith)))

  module _ (ms : List ℕ) (es : List Entry) (h : Marks ms es 48) (n : ℕ) where
    -- the first of the marks within a count is that of the lowest slot with the page
    pub lowest_marked : first_from (eqb m) 1 (take (min n 48) ms) ≡ first_from (holds (page_of a)) 1 (take n es)
    lowest_marked = rw (within (ltb 48 n) refl) (first_marked 1 n ms es (h.long ∙ sym h.whole) (λ i b. h.each i (omega (arith, h.whole))))
      where
        within : (b : Bool) → ltb 48 n ≡ b → take (min n 48) ms ≡ take n ms
        within true e =
            let over = ltb-true 48 n e in
            let cut : min n 48 ≡ 48 = omega arith in
            rw cut (take_all 48 ms (omega (arith, h.long)) ∙ sym (take_all n ms (omega (arith, h.long))))
        within false e = let whole : min n 48 ≡ n = omega (arith, ltb-false 48 n e) in rw whole

    -- a page is among the marks within a count exactly if the plan has it
    pub some_marked : some (eqb m) (take (min n 48) ms) ≡ some (holds (page_of a)) (take n es)
    some_marked =
        sym (found_some (eqb m) 0 (take (min n 48) ms))
        ∙ ap (λ (s : ℕ). not (eqb s 0)) lowest_marked
        ∙ found_some (holds (page_of a)) 0 (take n es)
