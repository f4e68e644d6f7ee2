-- The lowest slot of the page of a slot: it is no higher, has the same page, and is its own lowest.
use Rattle.laws.proofs.Base.{◌≡◌, refl, sym, ◌∙◌, true, false≢true, ℕ, ◌-◌, ◌<◌, arith, get_or, length-take, get_or-take}
use Rattle.laws.proofs.Search.{Found, none_passes, first_passes}
use Rattle.plan.specs.Paper.{Plan, free, entries_within, entry_at}
use Rattle.plan.proofs.GoodPlan.{inside}
use Rattle.plan_slots.specs as defs
use defs.Paper.{holds, page_at, lowest_at}
use defs.Claims.{Leading, LowestLeads}
use Rattle.plan_slots.proofs.Slots.{holds_kind, holds_own, holds_identifier, lowest_same, Has, lowest_slot_lem, lowest_reached}

module _ (p : Plan) where
  within_at : (i : ℕ) → i < p.count → get_or (entries_within p) i free ≡ entry_at p i
  within_at i l = get_or-take p.count p.entries i free l

  module _ (i : ℕ) (l : i < p.count) (k : (entry_at p i).kind ≡ 2) where
    -- a slot within the count that is planned with a page has that page
    pub has_own : Has p (page_at p i) i
    has_own =
        record {
          inside = rw length-take (let a = inside p i (omega arith) in omega arith);
          holding = rw (within_at i l) (holds_own (entry_at p i) k);
        }

    leads : Leading p i (lowest_at p i)
    leads = go (lowest_at p i) refl (lowest_slot_lem p (page_at p i))
      where
        go : (s : ℕ) → lowest_at p i ≡ s → Found (holds (page_at p i)) free 1 (entries_within p) s → Leading p i s
        go s e (none_passes z none) = absurd (false≢true (sym (none i has_own.inside) ∙ has_own.holding))
        go s e (first_passes j q h holding-in none) =
            let reached = lowest_reached p (page_at p i) i has_own in
            let here : s - 1 ≡ j = omega arith in
            let low : j < p.count = omega (arith, reached.1) in
            let holding : holds (page_at p i) (entry_at p j) ≡ true = rw (sym (within_at j low)) holding-in in
            let known = holds_kind (page_at p i) (entry_at p j) holding in
            record {
              some = omega arith;
              reaches = omega (arith, reached.1);
              page = rw here known.0;
              same = rw here known.1;
              id = rw here (holds_identifier (page_at p i) (entry_at p j) holding);
              own = rw here (lowest_same (page_at p j) (page_at p i) known.1 p ∙ e);
            }

pub leading : LowestLeads
leading p i l k = leads p i l k
