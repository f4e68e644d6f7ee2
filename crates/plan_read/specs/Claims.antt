-- What is promised of plan files.
use Rattle.std.specs.Prelude.{◌≡◌, false, not, ◌||◌, List, [], ◌∷◌, ℕ, ◌+◌, ◌*◌, ◌-◌, ◌≤◌, eqb, ltb, length, get_or}
use Rattle.laws.specs.Ruled.{ruled}
use Rattle.laws.specs.Search.{some}
use Rattle.page.specs.Paper.{octet}
use Rattle.plan.specs.Paper.{Entry, Plan, free, filled_plan, empty, bad, plan_number}
use Rattle.plan.specs.Claims.{NamesBad, Becomes}
use Rattle.plan_read.specs.Paper.{sixteen, is_marked, listed, read_plan, file_of}

-- 01 The plan: a file that was written from good entries, no more than 48, reads as them
abbrev pub FileBack : Type 0
FileBack = (es : List Entry) → length es ≤ 48 → some bad es ≡ false → read_plan (file_of es) ≡ record { number = 0; entry = 0; plan = filled_plan es }

-- 01 The plan, Order: whatever a file holds, the plan that reading gives is good, beside a refusal too
abbrev pub ReadIsGood : Type 0
ReadIsGood = (f : List ℕ) → plan_number (read_plan f).plan ≡ 0

-- 02 No. 1: of a file's entries the lowest bad one is named
abbrev pub FileNamesLowestBad : Type 0
FileNamesLowestBad = (f : List ℕ) → NamesBad (listed f) (read_plan f).number (read_plan f).entry

-- 01 Order: what reading a plan file gives in document 01: its number, and a plan
pub record ReadIn01 : Type 0 where
  pub number : ℕ
  pub plan : Plan

-- 01 Order, a plan, in document 01: 32 if short, 30, 31, 32, 33; with a refusal the plan is empty
abbrev pub read_plan_in01 : List ℕ → ReadIn01
read_plan_in01 f =
    ruled (λ (n : ℕ). record { number = n; plan = empty })
    ((ltb (length f) 6, 32)
    ∷ (not (is_marked f), 30)
    ∷ (not (eqb (sixteen f 4) 1), 31)
    ∷ (ltb 48 (octet f 6) || not (eqb (length f) (6 + 6 * octet f 6)), 32)
    ∷ (some bad (listed f), 33)
    ∷ [])
    (record { number = 0; plan = filled_plan (listed f) })

-- 02 No. 1: nothing that was accepted changes, nor another refusal: a file reads as the plan, or is refused, exactly as in document 01
abbrev pub FileAcceptedAsBefore : Type 0
FileAcceptedAsBefore =
    (f : List ℕ) → Becomes (read_plan_in01 f).number (read_plan f).number × ((read_plan f).plan ≡ (read_plan_in01 f).plan)

-- 02 No. 1: the kind of entry k, counted from 1, stands at octet 6 × k + 1 of the file
abbrev pub KindStands : Type 0
KindStands = (f : List ℕ) (k : ℕ) → 1 ≤ k → k ≤ octet f 6 → (get_or (listed f) (k - 1) free).kind ≡ octet f (6 * k + 1)
