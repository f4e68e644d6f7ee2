-- What comes of a page that is not refused: handed out with its message, kept, or passed over.
use Rattle.laws.proofs.Base.{◌≡◌, refl, sym, ap, ◌∙◌, true, false, not, ◌&&◌, ◌||◌, List, [], ◌++◌, ℕ, suc, ◌+◌, ◌-◌, ◌≤◌, ◌<◌, arith, length, take}
use Rattle.laws.proofs.Base.{leb, eqb, eq-eqb, ne_eqb, eqb-true}
use Rattle.laws.specs.Upto.{some_below, count}
use Rattle.laws.proofs.Tests.{true_or_false, both}
use Rattle.collector.specs.Paper.{page_number, page_total, page_place, total, received_of, held, missing, wrong, proper, blanks, start, begun, is_of, goes_on, put, with_page, is_whole, whole_message, Taken, settled, Left, moved}
use Rattle.collector.specs.Inner.{pages_in, Takes, Holds, Adds}
use Rattle.collector.proofs.Places.{number_some, total_some, total_most, begun_received, begun_none, put_total, put_held, whole_count}

-- what the count of pages says of a collector
pub pages_improper : (c : List ℕ) → 0 ≡ pages_in c → proper c ≡ false
unfolding pages_in
pages_improper c e = true_or_false (proper c) (λ g. absurd (omega (arith, rw g at e))) (λ g. g)

pub pages_held : (c : List ℕ) (k : ℕ) → suc k ≡ pages_in c → Holds c k
unfolding pages_in
pages_held c k e =
    true_or_false (proper c)
    (λ g. record { proper = g; counted = omega (arith, rw g at e) })
    (λ g. absurd (omega (arith, rw g at e)))

-- the place of a page, counted from 0
module _ (p : List ℕ) (numbered : page_number p ≤ page_total p) where
  pub within : page_number p - 1 < page_total p
  within = omega (arith, number_some p)

  pub few : page_number p - 1 < 15
  few = omega (arith, number_some p, total_most p)

-- a collector in which all pages are there, and one in which they are not
settled_whole : (c : List ℕ) → is_whole c ≡ true → settled c ≡ record { number = 0; pages = total c; next = start; message = whole_message c }
settled_whole c e = rw e

settled_kept : (c : List ℕ) → is_whole c ≡ false → settled c ≡ record { number = 1; pages = 0; next = c; message = [] }
settled_kept c e = rw e

-- a page that is added to k others of its message
module _ (c p : List ℕ) (n k : ℕ) (o : List ℕ) (long : length c ≡ 1340) (size : length p ≡ 88) (takes : Takes p n) (adds : Adds c p k) where
  abbrev at : ℕ
  at = page_number p - 1

  abbrev with : List ℕ
  with = put c at p n

  with_total : total with ≡ page_total p
  with_total = put_total c p at n long (few p takes.numbered) size ∙ adds.same

  with_held : count (held with) (total with) ≡ k + 1
  with_held =
      ap (count (held with)) with_total
      ∙ put_held c p at n long (few p takes.numbered) size (page_total p) (within p takes.numbered) adds.missing takes.received
      ∙ ap (λ (x : ℕ). x + 1) (ap (count (held c)) (sym adds.same) ∙ sym adds.counted)

  with_whole : is_whole with ≡ eqb (k + 1) (page_total p)
  with_whole = whole_count with ∙ rw (with_held, with_total)

  pub added_last : (t : ℕ) (v w : List ℕ) → t ≡ page_total p → k + 1 ≡ t → v ≡ start → w ≡ take (page_place t) with ++ blanks (15 - t)
      → ◌≡◌ {A = Left} (record { number = 0; pages = t; collector = v; output = w }) (moved (settled with) o)
  added_last t v w e last f g =
      let pages : t ≡ total with = e ∙ sym with_total in
      let output : w ≡ whole_message with = g ∙ ap (λ (x : ℕ). take (page_place x) with ++ blanks (15 - x)) pages in
      (λ i. record { number = 0; pages = pages i; collector = f i; output = output i })
      ∙ ap (λ (s : Taken). moved s o) (sym (settled_whole with (with_whole ∙ eq-eqb (k + 1) (page_total p) (last ∙ e))))

  pub added_kept : (t : ℕ) (v : List ℕ) → t ≡ page_total p → (k + 1 ≡ t → ⊥) → v ≡ with
      → ◌≡◌ {A = Left} (record { number = 1; pages = 0; collector = v; output = o }) (moved (settled with) o)
  added_kept t v e more f =
      (λ i. record { number = 1; pages = 0; collector = f i; output = o })
      ∙ ap (λ (s : Taken). moved s o) (sym (settled_kept with (with_whole ∙ ne_eqb (k + 1) (page_total p) (λ q. more (q ∙ sym e)))))

-- a page that begins its message
module _ (c p : List ℕ) (n : ℕ) (size : length p ≡ 88) where
  pub begun_adds : Adds (begun p) p 0
  begun_adds = record { same = refl; counted = sym (begun_none p size (page_total p)); missing = begun_received p size (page_number p - 1) }

  pub kept_begun : is_of c p ≡ false → with_page (goes_on c p) p n ≡ put (begun p) (page_number p - 1) p n
  kept_begun e = rw (e, begun_received p size (page_number p - 1))

-- a page of the message that is collected: passed over where it is held, and added where it is missing
module _ (c p : List ℕ) (n k : ℕ) (o : List ℕ) (holds : Holds c k) (own : is_of c p ≡ true) where
  own_total : total c ≡ page_total p
  unfolding is_of
  own_total = eqb-true (total c) (page_total p) (both _ _ own).0

  not_whole : is_whole c ≡ false
  unfolding proper
  not_whole =
      let some : eqb (total c) 0 ≡ false = ne_eqb (total c) 0 (λ q. omega (arith, own_total, total_some p)) in
      let t = total c in
      let rule : (eqb t 0 || (leb t 15 && (some_below (held c) t && some_below (missing c) t))) ≡ true = (both (not (some_below (wrong c) 15)) _ holds.proper).1 in
      let left : (leb t 15 && (some_below (held c) t && some_below (missing c) t)) ≡ true = rw some at rule in
      ap not (both (some_below (held c) t) (some_below (missing c) t) (both (leb t 15) _ left).1).1

  pub kept_passed : (received_of c (page_number p - 1) ≡ 0 → ⊥)
      → ◌≡◌ {A = Left} (record { number = 1; pages = 0; collector = c; output = o }) (moved (settled (with_page (goes_on c p) p n)) o)
  kept_passed some =
      let same : with_page (goes_on c p) p n ≡ c = rw (own, ne_eqb (received_of c (page_number p - 1)) 0 some) in
      ap (λ (s : Taken). moved s o) (sym (settled_kept c not_whole)) ∙ ap (λ (x : List ℕ). moved (settled x) o) (sym same)

  pub own_adds : received_of c (page_number p - 1) ≡ 0 → Adds c p k
  own_adds e = record { same = own_total; counted = holds.counted; missing = e }

  pub kept_added : received_of c (page_number p - 1) ≡ 0 → with_page (goes_on c p) p n ≡ put c (page_number p - 1) p n
  kept_added e = rw (own, e)
