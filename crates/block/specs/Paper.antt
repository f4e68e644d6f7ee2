-- Blocks and their intake as document 01 has them, in numbers and lists of octets.
use Rattle.std.specs.Prelude.{Bool, cond, not, ◌&&◌, ◌||◌, List, [], ◌∷◌, ◌++◌, ℕ, suc, ◌*◌, ◌-◌, ◌/◌, ◌%◌, length, take, drop, get_or, replicate, eqb, leb}
use Rattle.std.specs.List.{list_all}
use Rattle.laws.specs.Ruled.{ruled}

-- 01 Blocks, 000 3.3.1: the type octet of a piece, its first
abbrev pub head : List ℕ → ℕ
head p = get_or p 0 0

-- 01 Blocks, 000 3.3.1: bits 7 and 6 of the type octet, the link discriminator
abbrev pub link : List ℕ → ℕ
link p = head p / 32 % 4

-- 01 Blocks, 000 3.3.1: bit 5 of the type octet, the last-block mark LB
abbrev pub mark : List ℕ → ℕ
mark p = head p / 16 % 2

-- 01 Blocks, 000 Table 1: bits 4 to 1 of the type octet, the sequence code
abbrev pub code : List ℕ → ℕ
code p = head p % 16

-- 01 Blocks: a message is a page or a schedule
pub data Kind : Type 0 where
  page schedule : Kind

-- 01 Blocks, 000 Table 1: the sequence code of a message's first block
abbrev pub first_code : Kind → ℕ
first_code page = 0
first_code schedule = 8

-- 01 Intake: the kind as a state holds it, where 0 is none
abbrev pub kind_number : Kind → ℕ
kind_number page = 1
kind_number schedule = 2

-- 01 Blocks, 000 Table 1: the sequence code of block i of a message, counted from 0
abbrev pub sequence_code : Kind → ℕ → ℕ
sequence_code k i = cond (eqb i 0) (first_code k) i

-- 01 Intake: a state: kind (0 none, 1 page, 2 schedule), blocks taken, 88 octets
pub record Held : Type 0 where
  pub kind : ℕ
  pub taken : ℕ
  pub octets : List ℕ

-- 01 Intake: octets followed by 2B up to 88
abbrev pub filled : List ℕ → List ℕ
filled xs = xs ++ replicate (88 - length xs) 0x2b

-- 01 Intake: 88 octets of 2B
abbrev pub blank : List ℕ
blank = replicate 88 0x2b

-- 01 Intake: what the start call gives
abbrev pub start : Held
start = record { kind = 0; taken = 0; octets = blank }

-- every octet is 2B
abbrev pub all_blank : List ℕ → Bool
all_blank xs = list_all (λ (x : ℕ). eqb x 0x2b) xs

-- 01 Intake: kind 0 with 0 blocks, or 1 or 2 with 1 to 3; 88 octets, those that no taken block filled 2B
unfoldable pub proper : Held → Bool
proper h =
    eqb (length h.octets) 88
    && (cond (eqb h.kind 0) (eqb h.taken 0) (leb h.kind 2 && (leb 1 h.taken && leb h.taken 3))
    && all_blank (drop (22 * h.taken) h.octets))

-- 01 Blocks: codes of the second to fourth block
abbrev pub follows : ℕ → Bool
follows c = leb 1 c && leb c 3

-- 01 Blocks: codes that are neither 0 to 3, nor 8, nor 15
abbrev pub reserved_code : ℕ → Bool
reserved_code c = not (leb c 3 || (eqb c 8 || eqb c 15))

-- 01 Intake: the answer to a piece: its number, the octets received, the 88 octets, and the state afterwards
pub record Given : Type 0 where
  pub number : ℕ
  pub received : ℕ
  pub octets : List ℕ
  pub next : Held

-- 01 Order: a refused piece: other numbers 0, octets 2B, the state as after start
abbrev pub refusal : ℕ → Given
refusal n = record { number = n; received = 0; octets = blank; next = start }

-- 01 Intake: a message with nothing taken yet, of the kind that a first block's code says
abbrev pub begun : ℕ → Held
begun c = record { kind = cond (eqb c 8) 2 1; taken = 0; octets = [] }

-- 01 Intake: a message with one block more
abbrev pub added : Held → List ℕ → Held
added h p =
    record { kind = h.kind; taken = suc h.taken; octets = filled (take (22 * h.taken) h.octets ++ drop 1 p) }

-- 01 Intake: the message that a piece makes: the one held for a second to fourth block, a new one for a first
abbrev pub made : Held → List ℕ → Held
made h p = added (cond (follows (code p)) h (begun (code p))) p

-- 01 Intake: complete at LB = 1 or at the fourth block; n blocks are taken with this one
abbrev pub last : List ℕ → ℕ → Bool
last p n = eqb (mark p) 1 || eqb n 4

-- 01 Intake: a message complete is handed out, with 22 octets received for each block, and the state is as after start
abbrev pub handed : Held → Given
handed h = record { number = cond (eqb h.kind 2) 7 0; received = 22 * h.taken; octets = h.octets; next = start }

-- 01 Order: a block only taken: other numbers 0, octets 2B
abbrev pub kept : Held → Given
kept h = record { number = 1; received = 0; octets = blank; next = h }

-- 01 Intake, Order: why a piece is refused beside a number of blocks taken
abbrev pub faults : ℕ → List ℕ → List (Bool × ℕ)
faults taken p =
    (not (eqb (length p) 23), 2)
    ∷ (not (eqb (link p) 1), 3)
    ∷ (reserved_code (code p), 4)
    ∷ (eqb (code p) 15, 5)
    ∷ (follows (code p) && not (eqb (code p) taken), 6)
    ∷ []

-- 01 Intake, Order: the answer to a piece
unfoldable pub step : Held → List ℕ → Given
step h p =
    ruled refusal ((not (proper h), 8) ∷ faults h.taken p)
    (cond (last p (made h p).taken) (handed (made h p)) (kept (made h p)))
