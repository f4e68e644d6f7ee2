-- What is answered of a message and left of its slots, told from the places of its descriptions.
use Rattle.laws.proofs.Base.{◌≡◌, Bool, true, eqb, ltb, eq-eqb, ne_eqb, sym, ap, ◌∙◌, not, List, map, ℕ, suc, ◌≤◌, ◌<◌, arith, get_or, list_get_d_map}
use Rattle.laws.proofs.Base.{length, ltb-true, ltb-false, le-ltb, lt-ltb}
use Rattle.std.specs.List.{position, position_or_len}
use Rattle.std.proofs.lemmas.List.Sums.{passes_at_first, fails_before_first}
use Rattle.laws.specs.Upto.{lowest, each}
use Rattle.laws.proofs.Lowest.{Lowest, none_passes, first_passes, lowest_is, lowest_at_lem, lowest_none, lowest_within}
use Rattle.laws.proofs.Tests.{true_or_false}
use Rattle.laws.proofs.Upto.{each_at, each_agree}
use Rattle.refusals.specs.Number.{number_of}
use Rattle.refusals.specs.declared.Refusal.{Refusal}
use Rattle.refusals.proofs.Inverse.{number_of_positive}
use Rattle.schedule.specs.Paper.{new, Told, shown, end, Read, unread, read}
use Rattle.schedule_places.specs.Inner.{Placed, placed}
use Rattle.schedule_places.proofs.Known.{Good, read_placed, given_good, told_at}
use Rattle.plan_slots.specs.declared.Planned.{Planned as PlannedCode}
use Rattle.plan_slots.specs.Paper.{Planned}
use Rattle.plan_slots.specs.Coded.{planned_of}
use Rattle.plan_slots.specs.Inner.{nothing}
use Rattle.checker_slots.specs.Paper.{failing_rule}
use Rattle.checker_slots.proofs.Rules.{rule_true}
use Rattle.checker.specs as defs
use defs.Paper.{unchecked, untrue_at, SlotsChecked, unjudged}
use defs.Inner.{is_broken, breaks, untrue_to, rule_to, compared}
use defs.Coded.{slot_of, rule_by}

-- the first verdict that is a rule stands at the lowest slot that breaks one
pub lowest_position : (w : List ℕ) → length w ≡ 48 → slot_of (position is_broken w) ≡ lowest (breaks w) 48
lowest_position w size =
    let first = position_or_len is_broken w in
    true_or_false (ltb first (length w))
    (λ e.
    let there = ltb-true first (length w) e in
    rw e (sym (lowest_at_lem (breaks w) 48 first (omega arith) (passes_at_first is_broken w 0 there) (λ k l. fails_before_first is_broken w k 0 l))))
    (λ e.
    let past = ltb-false first (length w) e in
    rw e (sym (lowest_none (breaks w) 48 (λ k l. fails_before_first is_broken w k 0 (omega arith)))))

-- the lowest of n numbers, counted from 1, is no more than n
pub lowest_few : (f : ℕ → Bool) (n : ℕ) → lowest f n ≤ n
lowest_few f n = go (lowest_is f n)
  where
    go : {r : ℕ} → Lowest f n r → r ≤ n
    go (none_passes e none) = omega arith
    go (first_passes i e l t before) = omega arith

-- of the verdicts on n slots, no more than 48, the first that is a rule is at the lowest untrue slot
lowest_breaks : (n : ℕ) (v : List Planned) (m : List ℕ) → n ≤ 48 → lowest (breaks (each (rule_to n v m) 48)) 48 ≡ lowest (untrue_to v m) n
lowest_breaks n v m few =
    lowest_within (breaks (each (rule_to n v m) 48)) (untrue_to v m) n 48 few
    (λ i l. at i (omega arith) ∙ rw (lt-ltb i n l) (ap not (rule_true _ (suc i) (shown m i))))
    (λ i p l. at i l ∙ rw (le-ltb i n p))
  where
    at : (i : ℕ) → i < 48 → breaks (each (rule_to n v m) 48) i ≡ not (eqb (rule_to n v m i) 0)
    at i l = ap (λ (x : ℕ). not (eqb x 0)) (each_at (rule_to n v m) 48 i 0 l)

-- a message that is refused is judged no further; so the check finds it for any code that hands a refusal on
pub message_refused : (n : ℕ) (v : List Planned) (m : List ℕ) (received : ℕ) (w : List ℕ) → ((placed m received).read.number ≡ 0 → ⊥)
    → compared n v m received w ≡ unjudged 0 w (placed m received).read.number
unfolding compared
message_refused n v m received w k =
    let e : (placed m received).read.number ≡ (read m received).number = ap (λ (r : Read). r.number) (read_placed m received) in
    rw (e, ne_eqb (read m received).number 0 (λ z. k (e ∙ z)))

module _ (n : ℕ) (xs : List PlannedCode) (m : List ℕ) (received : ℕ) (w : List ℕ) (t : Placed) (q : t ≡ placed m received) where
  abbrev answer : SlotsChecked
  answer = compared n (map planned_of xs) m received w

  read_number : (read m received).number ≡ t.read.number
  read_number = sym (ap (λ (l : Placed). l.read.number) q ∙ ap (λ (r : Read). r.number) (read_placed m received))

  pub found_refused : (r : Refusal) → t.read ≡ unread (number_of r) → unjudged 0 w (number_of r) ≡ answer
  unfolding compared
  found_refused r a =
      let number : (read m received).number ≡ number_of r = read_number ∙ ap (λ (x : Read). x.number) a in
      rw (number, ne_eqb (number_of r) 0 (number_of_positive r))

  module _ (b e : ℕ) (a : t.read ≡ record { number = 0; begin = b; end = e }) where
    good : Good m received t q e
    good = given_good m received t q b e a

    reads : (read m received).number ≡ 0
    reads = read_number ∙ ap (λ (x : Read). x.number) a

    pub found_differs : (e ≡ n → ⊥) → record { checked = untrue_at 0; verdicts = w } ≡ answer
    unfolding compared
    found_differs d = rw (reads, ne_eqb (end m) n (λ w. d (good.ends ∙ w)))

    -- a slot's rule by its place is that of the slot
    same_rule : (i : ℕ) → rule_by xs m t.places e i ≡ rule_to e (map planned_of xs) m i
    same_rule i =
        true_or_false (ltb i e)
        (λ l.
        rw l
        (ap (λ (d : Told). failing_rule (planned_of (get_or xs i nothing)) (suc i) (record { new = new m i; told = d })) (told_at m received t q e good i (ltb-true i e l))
        ∙ ap (λ (v : Planned). failing_rule v (suc i) (shown m i)) (sym (list_get_d_map planned_of xs i nothing))))
        (λ l. rw l)

    module _ (same : e ≡ n) (x : List ℕ) (j : x ≡ each (rule_by xs m t.places e) 48) (s : ℕ) (l : s ≡ lowest (breaks x) 48) where
      left : x ≡ each (rule_to n (map planned_of xs) m) 48
      left = j ∙ each_agree _ _ 48 (λ i _. same_rule i) ∙ ap (λ (k : ℕ). each (rule_to k (map planned_of xs) m) 48) same

      found : lowest (untrue_to (map planned_of xs) m) n ≡ s
      found =
          sym
          (l
          ∙ ap (λ (y : List ℕ). lowest (breaks y) 48) left
          ∙ lowest_breaks n (map planned_of xs) m (let few = good.last in omega arith))

      ends : eqb (end m) n ≡ true
      ends = eq-eqb (end m) n (sym good.ends ∙ same)

      pub found_true : s ≡ 0 → record { checked = unchecked 0; verdicts = x } ≡ answer
      unfolding compared
      found_true z = rw (reads, ends, found, eq-eqb s 0 z, left)

      pub found_untrue : (s ≡ 0 → ⊥) → record { checked = untrue_at s; verdicts = x } ≡ answer
      unfolding compared
      found_untrue z = rw (reads, ends, found, ne_eqb s 0 z, left)
