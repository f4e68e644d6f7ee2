-- Calls given one after the other to the same state: the statements of demand 2 for C.
use Rattle.std.specs.Prelude.{◌≡◌, cond, List, [], ◌∷◌, ◌↔◌, ◌⊎◌, ℕ, ◌+◌, ◌*◌, ◌%◌, length, eqb}
use Rattle.block.specs.Paper.{Kind, start, filled}
use Rattle.block_history.specs.Claims.{completes, Latest, Run, Unfinished, contents, holding, refused_by, GoesOn}
use Rattle.firmware.specs.Paper.{IntakeLeft, lent, start_call, intake_call}

-- 01 Intake: a call of the intake: on the state as the call before left it, or on memory that is not 90 octets
pub data Call : Type 0 where
  on : (piece output : List ℕ) → Call
  off : (memory : List ℕ) → (length memory ≡ 90 → ⊥) → (piece output : List ℕ) → Call

-- what a call leaves of the state; one on other memory leaves that memory, too, as it was
abbrev pub after_call : List ℕ → Call → List ℕ
after_call s (on p o) = (intake_call s p o).state
after_call s (off m w p o) = s

-- what calls in order leave of the state
unfoldable pub after_calls : List ℕ → List Call → List ℕ
after_calls s [] = s
after_calls s (c ∷ cs) = after_calls (after_call s c) cs

-- 01 Intake: the pieces that count: a call refused by 15, or by 8 for the length, gives none
unfoldable pub counted : List Call → List (List ℕ)
counted [] = []
counted (on p o ∷ cs) = cond (eqb (length o) 88) (p ∷ counted cs) (counted cs)
counted (off m w p o ∷ cs) = counted cs

-- a call after a start call on memory m and further calls
abbrev pub call_after : List ℕ → List Call → List ℕ → List ℕ → IntakeLeft
call_after m cs p o = intake_call (after_calls (start_call m).state cs) p o

-- what a call leaves that completes a message of kind k with the run r
abbrev pub handed_over : Kind → List (List ℕ) → IntakeLeft
handed_over k r = record { returned = completes k + 256 * (22 * length r); state = lent start; output = filled (contents r) }

-- 00 demand 2, for C: what every call after a start on 90 octets returns and leaves, by the pieces that count
pub record LentHistory : Type 0 where
  -- a message is complete exactly when the latest pieces are a run of it
  pub exactly : (m : List ℕ) (cs : List Call) (p o : List ℕ) (k : Kind) → length m ≡ 90 → length o ≡ 88
      → ((call_after m cs p o).returned % 256 ≡ completes k) ↔ ((r : List (List ℕ)) × Latest (counted cs) p r × Run k r)
  -- and then it is the run's
  pub gives : (m : List ℕ) (cs : List Call) (p o : List ℕ) (k : Kind) (r : List (List ℕ)) → length m ≡ 90 → length o ≡ 88
      → Latest (counted cs) p r → Run k r → call_after m cs p o ≡ handed_over k r
  -- blocks that the next one may follow are held
  pub takes : (m : List ℕ) (cs : List Call) (p o : List ℕ) (k : Kind) (u : List (List ℕ)) → length m ≡ 90 → length o ≡ 88
      → Latest (counted cs) p u → Unfinished k u
      → call_after m cs p o ≡ record { returned = 1; state = lent (holding k u); output = o }
  -- every other piece is refused by 2 to 6, and nothing is held
  pub refuses : (m : List ℕ) (cs : List Call) (p o : List ℕ) → length m ≡ 90 → length o ≡ 88
      → (GoesOn (counted cs) p → ⊥) → call_after m cs p o ≡ record { returned = refused_by p; state = lent start; output = o }
  -- and each piece goes on a message or does not
  pub decided : (cs : List Call) (p : List ℕ) → GoesOn (counted cs) p ⊎ (GoesOn (counted cs) p → ⊥)
  -- calls that do not count change nothing
  pub uncounted_15 : (s p o : List ℕ) → (length o ≡ 88 → ⊥) → intake_call s p o ≡ record { returned = 15; state = s; output = o }
  pub uncounted_8 : (s p o : List ℕ) → length o ≡ 88 → (length s ≡ 90 → ⊥) → intake_call s p o ≡ record { returned = 8; state = s; output = o }

-- 00, the first version's fault: what lies in memory before a start has no say in what comes after it
pub record NeverFinishesLeftovers : Type 0 where
  -- a start answers and leaves the same for any two memories of 90 octets
  pub starts_alike : (m n : List ℕ) → length m ≡ 90 → length n ≡ 90 → start_call m ≡ start_call n
  -- and so does each call after it
  pub calls_alike : (m n : List ℕ) (cs : List Call) (p o : List ℕ) → length m ≡ 90 → length n ≡ 90 → call_after m cs p o ≡ call_after n cs p o
  -- a message complete, on whatever memory, has a run behind it that was given since the start, and is that run's
  pub run_behind : (m : List ℕ) (cs : List Call) (p o : List ℕ) (k : Kind) → (call_after m cs p o).returned % 256 ≡ completes k
      → (r : List (List ℕ)) × Latest (counted cs) p r × Run k r × (call_after m cs p o ≡ handed_over k r)
