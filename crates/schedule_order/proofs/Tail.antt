-- Octets past the last description and the spare bits of octet 2 change nothing that is read, and a Begin from 1 to End nothing but itself.
use Rattle.laws.proofs.Base.{◌≡◌, refl, sym, ap, ◌∙◌, Bool, true, false, List, ℕ, zero, suc, ◌+◌, ◌*◌, ◌/◌, ◌%◌, ◌≤◌, ◌<◌, arith, length, take, length-take}
use Rattle.laws.proofs.Base.{length-set, list_get_d_append, list_get_d_eq_default, get_or-set_same, get_or-set_other, get_or-take, leb, ltb, le-leb, ltb-true, ltb-false}
use Rattle.sizes.specs.Paper.{whole_blocks}
use Rattle.laws.specs.Upto.{some_below, count}
use Rattle.schedule.specs.Paper.{octet_at, type, begin, end, width, told, new, place, tells, in_bounds, read}
use Rattle.schedule.proofs.Places.{place_after, width_some}
use Rattle.schedule_order.specs.Claims.{Alike, AlikeButBegin, SameSlots, Begins, TailIgnored, TailIsIgnored, with_begin, with_spare, with_tail, PastIgnored, SpareIgnored, BeginOnlyItself, TwoSlots}
use Rattle.schedule_order.proofs.Alike.{place_least, Matching, news_same, within_same, alike, alike_but_begin}

-- a Begin from 1 to End keeps the rule wherever End does
begins_good : (m : List ℕ) → Begins m → in_bounds m ≡ leb (end m) 48
begins_good m b = rw (le-leb 1 (begin m) b.from, le-leb (begin m) (end m) (omega (arith, b.upto)))

module _ (m n : List ℕ) (s : SameSlots m n) where
  end_same : end m ≡ end n
  end_same = omega (arith, s.last)

  -- an octet of a description stands in both
  octet_same : (k i : ℕ) → k < end m → place m k ≤ i → i < place m k + width (octet_at m (place m k)) → octet_at m i ≡ octet_at n i
  octet_same k i l low up = s.descriptions i (omega (arith, place_least m k)) (omega (arith, place_after m k (end m) l))

  first_same : (k : ℕ) → k < end m → octet_at m (place m k) ≡ octet_at n (place m k)
  first_same k l = octet_same k (place m k) l (omega arith) (omega (arith, width_some (octet_at m (place m k))))

  place_same : (k : ℕ) → k ≤ end m → place m k ≡ place n k
  unfolding place
  place_same zero l = refl
  place_same (suc k) l =
      (λ p. place m k + width (first_same k l p))
      ∙ ap (λ (x : ℕ). x + width (octet_at n x)) (place_same k (omega arith))

  told_same : (k : ℕ) → k < end m → told m (place m k) ≡ told n (place m k)
  told_same k l = go (leb 128 (octet_at m (place m k))) refl
    where
      go : (b : Bool) → leb 128 (octet_at m (place m k)) ≡ b → told m (place m k) ≡ told n (place m k)
      go true e =
          let wide : place m k + 1 < place m k + width (octet_at m (place m k)) = rw e (omega arith) in
          rw (← first_same k l, e, octet_same k (place m k + 1) l (omega arith) wide)
      go false e = rw (← first_same k l, e)

  matching : in_bounds m ≡ in_bounds n → Matching m n
  matching rule =
      record {
        long = s.long;
        kind = s.kind;
        rule = rule;
        last = end_same;
        news = λ i l. s.news i (omega arith);
        places = place_same;
        describes = λ k l. told_same k l ∙ ap (told n) (place_same k (omega arith));
      }

  ignored : (received : ℕ) → TailIgnored m n received
  ignored received =
      record {
        same = λ e. alike m n (matching (within_same m n e end_same)) received e;
        other = λ b c. alike_but_begin m n (matching (begins_good m b ∙ ap (λ (e : ℕ). leb e 48) end_same ∙ sym (begins_good n c))) received;
      }

pub tail_ignored : TailIsIgnored
tail_ignored = ignored

-- messages that agree from octet 3 to the last description's end
same_slots : (m n : List ℕ) → length m ≡ length n → type m ≡ type n → end m ≡ end n
    → ((i : ℕ) → 2 ≤ i → i < place m (end m) → octet_at m i ≡ octet_at n i) → SameSlots m n
same_slots m n long kind last same =
    let least = place_least m (end m) in
    record {
      long = long;
      kind = kind;
      last = last;
      news = news_same m n (λ i l b. same i l (omega arith));
      descriptions = λ i l b. same i (omega arith) (omega arith);
    }

module _ (m : List ℕ) (received : ℕ) where
  past : (t : List ℕ) → length (with_tail m t) ≡ length m → Alike m (with_tail m t) received
  past t e =
      let least = place_least m (end m) in
      let first = kept 0 (omega arith) in
      let slots = same_slots m (with_tail m t) (sym e) (ap (λ (x : ℕ). x / 64) first) (ap (λ (x : ℕ). x % 64) (kept 1 (omega arith))) (λ i _ l. kept i l) in
      (ignored m (with_tail m t) slots received).same (ap (λ (x : ℕ). x % 64) first)
    where
      kept : (i : ℕ) → i < place m (end m) → octet_at m i ≡ octet_at (with_tail m t) i
      kept i l = go (ltb i (length m)) refl
        where
          go : (b : Bool) → ltb i (length m) ≡ b → octet_at m i ≡ octet_at (with_tail m t) i
          go true q =
              let near = ltb-true i (length m) q in
              let inside : i < length (take (place m (end m)) m) = rw length-take (omega arith) in
              sym (list_get_d_append (take (place m (end m)) m) t 0 i inside ∙ get_or-take (place m (end m)) m i 0 l)
          go false q =
              let far = ltb-false i (length m) q in
              let far' : length (with_tail m t) ≤ i = omega arith in
              list_get_d_eq_default m 0 far ∙ sym (list_get_d_eq_default (with_tail m t) 0 far')

  spare : (s : ℕ) → 1 < length m → Alike m (with_spare m s) received
  spare s l =
      let here : octet_at (with_spare m s) 1 ≡ 64 * s + end m = get_or-set_same m 1 (64 * s + end m) 0 l in
      let slots = same_slots m (with_spare m s) (sym (length-set m 1 (64 * s + end m)))
      (ap (λ (x : ℕ). x / 64) (other 0 (omega arith))) (omega arith) (λ i l _. other i (omega arith)) in
      (ignored m (with_spare m s) slots received).same (ap (λ (x : ℕ). x % 64) (other 0 (omega arith)))
    where
      other : (i : ℕ) → (i ≡ 1 → ⊥) → octet_at m i ≡ octet_at (with_spare m s) i
      other i e = sym (get_or-set_other m 1 i (64 * s + end m) 0 e)

  begin_alone : (b : ℕ) → 0 < length m → Begins m → 1 ≤ b → b ≤ end m
      → (begin (with_begin m b) ≡ b) × AlikeButBegin m (with_begin m b) received
  begin_alone b l q from upto =
      let here : octet_at (with_begin m b) 0 ≡ 64 * type m + b = get_or-set_same m 0 (64 * type m + b) 0 l in
      let mine : begin (with_begin m b) ≡ b = omega arith in
      let last : end m ≡ end (with_begin m b) = ap (λ (x : ℕ). x % 64) (other 1 (omega arith)) in
      let slots = same_slots m (with_begin m b) (sym (length-set m 0 (64 * type m + b))) (omega arith) last (λ i l _. other i (omega arith)) in
      (mine, (ignored m (with_begin m b) slots received).other q (record { from = omega arith; upto = omega arith }))
    where
      other : (i : ℕ) → (i ≡ 0 → ⊥) → octet_at m i ≡ octet_at (with_begin m b) i
      other i e = sym (get_or-set_other m 0 i (64 * type m + b) 0 e)

pub past_ignored : PastIgnored
past_ignored = past

pub spare_ignored : SpareIgnored
spare_ignored = spare

pub begin_only_itself : BeginOnlyItself
begin_only_itself = begin_alone

pub two_slots_lem : TwoSlots
unfolding read place tells new some_below count whole_blocks
two_slots_lem = (refl, refl, refl)
