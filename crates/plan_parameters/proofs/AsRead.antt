-- Writer and checker take plans as they are with every page parameter as it is read. Of the sameness of pages only its laws are used.
use Rattle.laws.proofs.Base.{◌≡◌, refl, sym, ap, ◌∙◌, Bool, not, List, [], ◌∷◌, map, ℕ, suc, ◌-◌, ◌%◌, eqb, eqb-true, get_or, list_get_d_map}
use Rattle.laws.specs.Search.{some, first_from}
use Rattle.laws.proofs.Map.{take_map}
use Rattle.laws.proofs.Search.{found_some}
use Rattle.laws.proofs.Tests.{true_or_false}
use Rattle.page.specs.Paper.{Name}
use Rattle.page.proofs.Sameness.{Same, same_reflexive, same_as_read}
use Rattle.plan.specs.Paper.{Entry, Plan, free, entries_within, entry_at, bad, lowest_bad, lowest_fault, plan_number, plan_entry, plans_entry}
use Rattle.plan_slots.specs.Paper.{page_of, holds, lowest_slot, has_page, page_at, lowest_at, low15_at, planned_at}
use Rattle.plan_slots.proofs.Slots.{lowest_same, has_same}
use Rattle.schedule.specs.Paper.{shown}
use Rattle.sender.specs.Paper.{planned_told, new_at, planned, write}
use Rattle.checker_slots.specs.Paper.{true_by}
use Rattle.checker.specs.Paper.{is_true, untrue, verdict, check}
use Rattle.plan_parameters.specs.Claims.{parameter_as_read, entry_as_read, plan_as_read, WrittenAsRead, CheckedAsRead}

-- what holds of an entry, and with its parameter as it is read if it has a page, holds of it as it is read
by_kind : (P : Entry → Type 0) (e : Entry) → (e.kind ≡ 2 → P (parameter_as_read e)) → P e → P (entry_as_read e)
by_kind P e page other = true_or_false (eqb e.kind 2) (λ q. rw q (page (eqb-true e.kind 2 q))) (λ q. rw q other)

kind_as_read : (e : Entry) → (entry_as_read e).kind ≡ e.kind
kind_as_read e = by_kind (λ (d : Entry). d.kind ≡ e.kind) e (λ k. refl) refl

id_as_read : (e : Entry) → (entry_as_read e).id ≡ e.id
id_as_read e = by_kind (λ (d : Entry). d.id ≡ e.id) e (λ k. refl) refl

-- it has the same page
page_as_read : (e : Entry) → Same (page_of (entry_as_read e)) (page_of e)
page_as_read e =
    by_kind (λ (d : Entry). Same (page_of d) (page_of e)) e
    (λ k. same_as_read e.serial e.id e.parameter (page_of e) ∙ same_reflexive (page_of e)) (same_reflexive (page_of e))

-- it holds the same pages, and is bad where the entry is
holds_as_read : (x : Name) (e : Entry) → holds x (entry_as_read e) ≡ holds x e
unfolding holds
holds_as_read x e =
    by_kind (λ (d : Entry). holds x d ≡ holds x e) e (λ k. rw (same_as_read e.serial e.id e.parameter x)) refl

bad_as_read : (e : Entry) → bad (entry_as_read e) ≡ bad e
unfolding bad
bad_as_read e = by_kind (λ (d : Entry). bad d ≡ bad e) e (λ k. rw k) refl

-- a test that finds no difference in an entry as it is read finds none in a list of them
module _ (f : Entry → Bool) (h : (e : Entry) → f (entry_as_read e) ≡ f e) where
  first_as_read : (s : ℕ) (es : List Entry) → first_from f s (map entry_as_read es) ≡ first_from f s es
  unfolding first_from
  first_as_read s [] = refl
  first_as_read s (e ∷ es) = rw (h e, first_as_read (suc s) es)

  some_as_read : (es : List Entry) → some f (map entry_as_read es) ≡ some f es
  some_as_read es =
      sym (found_some f 0 (map entry_as_read es)) ∙ ap (λ (s : ℕ). not (eqb s 0)) (first_as_read 1 es) ∙ found_some f 0 es

fault_as_read : (es : List Entry) → lowest_fault (map entry_as_read es) ≡ lowest_fault es
unfolding lowest_fault
fault_as_read es =
    rw (first_as_read bad bad_as_read 1 es, list_get_d_map entry_as_read es (lowest_bad es - 1) free, kind_as_read (get_or es (lowest_bad es - 1) free))

module _ (p : Plan) where
  number_as_read : plan_number (plan_as_read p) ≡ plan_number p
  unfolding plan_number
  number_as_read =
      rw (take_map entry_as_read p.count p.entries, some_as_read bad bad_as_read (entries_within p), fault_as_read (entries_within p))

  named_as_read : plan_entry (plan_as_read p) ≡ plan_entry p
  unfolding plan_entry
  named_as_read = rw (number_as_read, take_map entry_as_read p.count p.entries, first_as_read bad bad_as_read 1 (entries_within p))

  lowest_as_read : (x : Name) → lowest_slot (plan_as_read p) x ≡ lowest_slot p x
  unfolding lowest_slot
  lowest_as_read x = rw (take_map entry_as_read p.count p.entries, first_as_read (holds x) (holds_as_read x) 1 (entries_within p))

  has_as_read : (x : Name) → has_page (plan_as_read p) x ≡ has_page p x
  unfolding has_page
  has_as_read x = rw (take_map entry_as_read p.count p.entries, some_as_read (holds x) (holds_as_read x) (entries_within p))

  module _ (i : ℕ) where
    entry_as_read_lem : entry_at (plan_as_read p) i ≡ entry_as_read (entry_at p i)
    entry_as_read_lem = list_get_d_map entry_as_read p.entries i free

    kind_at : (entry_at (plan_as_read p) i).kind ≡ (entry_at p i).kind
    kind_at = ap (λ (e : Entry). e.kind) entry_as_read_lem ∙ kind_as_read (entry_at p i)

    low_at : low15_at (plan_as_read p) i ≡ low15_at p i
    low_at = ap (λ (e : Entry). e.id % 32768) entry_as_read_lem ∙ ap (λ (n : ℕ). n % 32768) (id_as_read (entry_at p i))

    page_at_lem : Same (page_at (plan_as_read p) i) (page_at p i)
    page_at_lem = rw entry_as_read_lem (page_as_read (entry_at p i))

    lowest_at_lem : lowest_at (plan_as_read p) i ≡ lowest_at p i
    lowest_at_lem = lowest_as_read (page_at (plan_as_read p) i) ∙ lowest_same (page_at (plan_as_read p) i) (page_at p i) page_at_lem p

module _ (c p : Plan) where
  has_at : (i : ℕ) → has_page (plan_as_read p) (page_at (plan_as_read c) i) ≡ has_page p (page_at c i)
  has_at i = has_as_read p (page_at (plan_as_read c) i) ∙ has_same (page_at (plan_as_read c) i) (page_at c i) (page_at_lem c i) p

  -- the plans say the same of a slot, and the same is told of it
  planned_at_lem : (i : ℕ) → planned_at (plan_as_read c) (plan_as_read p) i ≡ planned_at c p i
  planned_at_lem i = λ k. record { kind = kind_at c i k; low = low_at c i k; lowest = lowest_at_lem c i k; fresh = not (has_at i k) }

  told_at : (i : ℕ) → planned (plan_as_read c) (plan_as_read p) i ≡ planned c p i
  unfolding planned_told new_at
  told_at i = rw (kind_at c i, lowest_at_lem c i, low_at c i, has_at i)

  plans_named : plans_entry (plan_as_read c) (plan_as_read p) ≡ plans_entry c p
  unfolding plans_entry
  plans_named = rw (number_as_read c, named_as_read c, named_as_read p)

  write_as_read : (b : ℕ) (o : List ℕ) → write (plan_as_read c) (plan_as_read p) b o ≡ write c p b o
  unfolding write
  write_as_read b o =
      let told : planned (plan_as_read c) (plan_as_read p) ≡ planned c p = λ k i. told_at i k in
      rw (number_as_read c, number_as_read p, told)

  verdict_as_read : (m : List ℕ) → verdict (plan_as_read c) (plan_as_read p) m ≡ verdict c p m
  unfolding is_true
  verdict_as_read m =
      let untold : untrue (plan_as_read c) (plan_as_read p) m ≡ untrue c p m = λ k i. not (true_by (planned_at_lem i k) (suc i) (shown m i)) in
      rw untold

pub written_as_read : WrittenAsRead
written_as_read c p b o = rw (write_as_read c p b o, plans_named c p)

pub checked_as_read : CheckedAsRead
unfolding check
checked_as_read c p m received = rw (number_as_read c, number_as_read p, plans_named c p, verdict_as_read c p m)
