-- The entry of a file that is named is its lowest bad one, and nothing else differs from document 01.
use Rattle.laws.proofs.Base.{◌≡◌, refl, sym, ap, ◌∙◌, Bool, true, false, cond, List, inl, inr, ⊎_elim}
use Rattle.laws.proofs.Base.{ℕ, zero, suc, ◌+◌, ◌*◌, ◌-◌, ◌≤◌, ◌<◌, le_of_suc-le-suc, not-suc-le-zero, arith, get_or, take, drop, get_or-drop}
use Rattle.laws.specs.Ruled.{ruled}
use Rattle.laws.specs.Search.{some}
use Rattle.laws.proofs.Ruled.{Ruling, refuses, passes, ruling, not_among, ruled_map}
use Rattle.laws.proofs.Outcome as outcomes
use Rattle.plan.specs.Paper.{free, filled_plan, empty, bad, lowest_bad, lowest_fault, naming}
use Rattle.page.specs.Paper.{octet}
use Rattle.plan.specs.Claims.{Naming, Becomes}
use Rattle.plan.proofs.Plans.{naming_twice}
use Rattle.plan.proofs.Answers.{fault_naming}
use Rattle.plan.proofs.Named.{names_by}
use Rattle.plan_read.specs as defs
use defs.Paper.{entry_in, entries_in, listed, PlanRead, refusal, good_file, faults, read_plan}
use defs.Claims.{FileNamesLowestBad, ReadIn01, read_plan_in01, FileAcceptedAsBefore, KindStands}

-- the entry of a file is what its number names
file_entry : (f : List ℕ) → (read_plan f).entry ≡ naming (read_plan f).number (lowest_bad (listed f))
unfolding read_plan
file_entry f = go (ruling (refusal f) (faults f) (good_file f))
  where
    go : {r : PlanRead} → Ruling (refusal f) (faults f) (good_file f) r → r.entry ≡ naming r.number (lowest_bad (listed f))
    go (refuses n a e) = rw e
    go (passes h e) = rw e

pub read_named : (f : List ℕ) → naming (read_plan f).number (read_plan f).entry ≡ (read_plan f).entry
read_named f = rw (file_entry f) (naming_twice (read_plan f).number (lowest_bad (listed f)))

-- the number of a file by its tests alone
number : (f : List ℕ) → ruled (λ (n : ℕ). n) (faults f) 0 ≡ (read_plan f).number
unfolding read_plan
number f = sym (ruled_map (λ (r : PlanRead). r.number) (refusal f) (faults f) (good_file f))

pub file_names_lowest_bad : FileNamesLowestBad
file_names_lowest_bad f = rw (file_entry f) (names_by (listed f) (read_plan f).number why)
  where
    -- of the tests only the last has such a number
    last : (n : ℕ) → 36 ≤ n → outcomes.Because n (faults f) → (some bad (listed f) ≡ true) × (n ≡ lowest_fault (listed f))
    last n h (inl (e, t)) = let never : ⊥ = omega arith in absurd never
    last n h (inr (inl (e, t))) = let never : ⊥ = omega arith in absurd never
    last n h (inr (inr (inl (e, t)))) = let never : ⊥ = omega arith in absurd never
    last n h (inr (inr (inr (inl (e, t))))) = let never : ⊥ = omega arith in absurd never
    last n h (inr (inr (inr (inr (inl (e, t)))))) = (t, e)
    last n h (inr (inr (inr (inr (inr x5))))) = elim x5 [ ]

    why : Naming (read_plan f).number → (some bad (listed f) ≡ true) × ((read_plan f).number ≡ lowest_fault (listed f))
    why h =
        let high : 36 ≤ (read_plan f).number = ⊎_elim (λ q. omega arith) (λ q. omega arith) h in
        ⊎_elim (λ z. let never : ⊥ = omega arith in absurd never) (last (read_plan f).number high) (outcomes.ruled_because (faults f) 0 (read_plan f).number (number f))

pub file_accepted_as_before : FileAcceptedAsBefore
unfolding read_plan
file_accepted_as_before f = go (outcomes.outcome (take 4 (faults f)))
  where
    by01 : ℕ → ReadIn01
    by01 n = record { number = n; plan = empty }

    Same : PlanRead → ReadIn01 → Type 0
    Same r s = Becomes s.number r.number × (r.plan ≡ s.plan)

    -- past the front
    last : (b : Bool) → Same (cond b (refusal f (lowest_fault (listed f))) (good_file f)) (cond b (by01 33) (record { number = 0; plan = filled_plan (listed f) }))
    last true = (inl (refl, fault_naming (listed f)), refl)
    last false = (inr ((λ e. omega arith), refl), refl)

    go : outcomes.Outcome (take 4 (faults f)) → Same (ruled (refusal f) (faults f) (good_file f)) (read_plan_in01 f)
    go (outcomes.refuses n a q) =
        rw (q PlanRead (refusal f) _, q ReadIn01 by01 _) (inr (not_among 33 (take 4 (faults f)) refl n a, refl), refl)
    go (outcomes.passes h q) = rw (q PlanRead (refusal f) _, q ReadIn01 by01 _) (last (some bad (listed f)))

-- an entry of a list of octets stands behind those before it
entry_stands : (n : ℕ) (o : List ℕ) (i : ℕ) → i < n → (get_or (entries_in n o) i free).kind ≡ get_or o (6 * i) 0
unfolding entries_in entry_in
entry_stands zero o i l = absurd (not-suc-le-zero l)
entry_stands (suc n) o zero l = refl
entry_stands (suc n) o (suc i) l =
    let next : 6 + 6 * i ≡ 6 * suc i = omega arith in
    entry_stands n (drop 6 o) i (le_of_suc-le-suc l) ∙ get_or-drop 6 o (6 * i) 0 ∙ ap (λ (k : ℕ). get_or o k 0) next

pub kind_stands : KindStands
kind_stands f k one within =
    let at : 6 + 6 * (k - 1) ≡ 6 * k + 1 - 1 = omega arith in
    entry_stands (octet f 6) (drop 6 f) (k - 1) (omega arith) ∙ get_or-drop 6 f (6 * (k - 1)) 0 ∙ ap (λ (j : ℕ). get_or f j 0) at
