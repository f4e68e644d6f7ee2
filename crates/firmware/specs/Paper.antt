-- The calls for C as document 01 has them, on lists of octets.
use Rattle.std.specs.Prelude.{cond, not, List, [], ◌∷◌, ℕ, ◌+◌, ◌*◌, length, drop, get_or, eqb}
use Rattle.laws.specs.Ruled.{ruled}
use Rattle.block.specs.Paper.{Held, Given, start, step}

-- 01 Intake: a state as it lies in lent memory: kind, blocks taken, the 88 octets
abbrev pub lent : Held → List ℕ
lent h = h.kind ∷ h.taken ∷ h.octets

-- 01 Intake: the state that lent memory holds
abbrev pub held_in : List ℕ → Held
held_in s = record { kind = get_or s 0 0; taken = get_or s 1 0; octets = drop 2 s }

-- what a start call leaves: its number, and the lent state
pub record Started : Type 0 where
  pub number : ℕ
  pub state : List ℕ

-- 01 Intake: the start call refuses only a state not 90 octets
unfoldable pub start_call : List ℕ → Started
start_call s =
    ruled (λ (n : ℕ). record { number = n; state = s }) ((not (eqb (length s) 90), 8) ∷ [])
    (record { number = 0; state = lent start })

-- what an intake call leaves: the number returned, the lent state, the lent output
pub record IntakeLeft : Type 0 where
  pub returned : ℕ
  pub state : List ℕ
  pub output : List ℕ

-- 01 Intake: answer + 256 × octets received; the output is untouched unless a message is complete
abbrev pub moved : Given → List ℕ → IntakeLeft
moved g o =
    record {
      returned = g.number + 256 * g.received;
      state = lent g.next;
      output = cond (eqb g.received 0) o g.octets;
    }

-- 01 Intake, Order: 15 first, then 8 for the length, and nothing changes; then as the intake by value
unfoldable pub intake_call : List ℕ → List ℕ → List ℕ → IntakeLeft
intake_call s p o =
    ruled (λ (n : ℕ). record { returned = n; state = s; output = o })
    ((not (eqb (length o) 88), 15) ∷ (not (eqb (length s) 90), 8) ∷ [])
    (moved (step (held_in s) p) o)
