-- One more block of a message: what a piece does to a state that holds the blocks before it.
use Rattle.laws.proofs.Base.{◌≡◌, refl, sym, ap, ◌∙◌, Bool, true, false, cond, not, ◌&&◌, List, [], ◌∷◌, ◌++◌, append_assoc, append-nil, ℕ, zero, suc, ◌*◌, ◌-◌, ◌≤◌, arith}
use Rattle.laws.proofs.Base.{length, take, drop, replicate, length-append, length-drop, length-replicate, take_at, drop_at, eqb, leb, lit≤, eq-eqb, ne_eqb, le-leb}
use Rattle.laws.proofs.Snoc.{length_snoc}
use Rattle.block.specs.Paper.{Kind, page, schedule, kind_number, mark, code, last, filled, Held, Given, start, proper, all_blank, refusal, added, step}
use Rattle.block.specs.Inner.{none, first, next, place_of, outcome}
use Rattle.block.proofs.Steps.{step_met, met}
use Rattle.block_history.specs.Claims.{IsBlock, contents, holding}

abbrev pub Pieces : Type 0
Pieces = List (List ℕ)

-- equal answers have equal numbers and leave equal states
pub number_of : {g h : Given} → g ≡ h → g.number ≡ h.number
number_of e = ap (λ (g : Given). g.number) e

pub next_of : {g h : Given} → g ≡ h → g.next ≡ h.next
next_of e = ap (λ (g : Given). g.next) e

-- unmarked blocks of a message of kind k, in order from the first, none or up to three
pub data Part (k : Kind) : Pieces → Type 0 where
  nothing : Part k []
  more : {u : Pieces} {p : List ℕ} → Part k u → length u ≤ 2 → IsBlock k (length u) p → mark p ≡ 0 → Part k (u ++ (p ∷ []))

pub contents_snoc : (u : Pieces) (p : List ℕ) → contents (u ++ (p ∷ [])) ≡ contents u ++ drop 1 p
unfolding contents
contents_snoc [] p = append-nil (drop 1 p)
contents_snoc (q ∷ u) p = rw (contents_snoc u p) (sym (append_assoc (drop 1 q) (contents u) (drop 1 p)))

pub length_contents : {k : Kind} {u : Pieces} → Part k u → length (contents u) ≡ 22 * length u
unfolding contents
length_contents nothing = refl
length_contents (more {u} {p} part h b m) =
    rw (contents_snoc u p, length-append (contents u) (drop 1 p), length_contents part, length-drop 1 p, b.whole, length_snoc u p) (omega arith)

pub length_part : {k : Kind} {u : Pieces} → Part k u → length u ≤ 3
length_part nothing = lit≤ tt
length_part (more {u} {p} part h b m) = rw (length_snoc u p) (omega arith)

-- a block added to what is held
added_holding : {k : Kind} {u : Pieces} (p : List ℕ) → Part k u → added (holding k u) p ≡ holding k (u ++ (p ∷ []))
added_holding {k} {u} p part =
    let front : take (22 * length u) (filled (contents u)) ≡ contents u = take_at (contents u) _ (22 * length u) (length_contents part) in
    rw (front, length_snoc u p, contents_snoc u p)

all_blank_replicate : (n : ℕ) → all_blank (replicate n 0x2b) ≡ true
all_blank_replicate zero = refl
all_blank_replicate (suc n) = all_blank_replicate n

-- a state that holds blocks is proper
pub proper_holding : {k : Kind} {u : Pieces} → Part k u → 1 ≤ length u → proper (holding k u) ≡ true
unfolding proper
proper_holding {k} {u} part some =
    let n = length_contents part in
    let few = length_part part in
    let long : length (filled (contents u)) ≡ 88 = simp (length-append, length-replicate) (omega arith) in
    let rest : drop (22 * length u) (filled (contents u)) ≡ replicate (88 - length (contents u)) 0x2b = drop_at (contents u) _ (22 * length u) n in
    simp (eq-eqb _ _ long, le-leb _ _ some, le-leb _ _ few, rest, all_blank_replicate) (known k)
  where
    known : (k : Kind) → (cond (eqb (kind_number k) 0) (eqb (length u) 0) (leb (kind_number k) 2 && (true && true)) && true) ≡ true
    known page = refl
    known schedule = refl

pub proper_start : proper start ≡ true
unfolding proper
proper_start = refl

-- the place of a first block, and of a follower
place_first : (k : Kind) (t : ℕ) (p : List ℕ) → IsBlock k 0 p → place_of t p ≡ first k (last p 1)
unfolding place_of
place_first page t p b = simp (eq-eqb _ _ b.whole, eq-eqb _ _ b.ours, b.numbered)
place_first schedule t p b = simp (eq-eqb _ _ b.whole, eq-eqb _ _ b.ours, b.numbered)

place_follower : (k : Kind) (t i : ℕ) (p : List ℕ) → 1 ≤ i → i ≤ 3 → IsBlock k i p → place_of t p ≡ cond (eqb i t) (next (last p (suc t))) (none 6)
unfolding place_of
place_follower k t i p some few b =
    let own : eqb i 0 ≡ false = ne_eqb i 0 (omega arith) in
    let number : code p ≡ i = b.numbered ∙ rw own in
    let real : eqb i 15 ≡ false = ne_eqb i 15 (omega arith) in
    simp (eq-eqb _ _ b.whole, eq-eqb _ _ b.ours, number, le-leb _ _ few, le-leb _ _ some, real) (go (eqb i t))
  where
    go : (c : Bool) → cond (not c) (none 6) (next (last p (suc t))) ≡ cond c (next (last p (suc t))) (none 6)
    go true = refl
    go false = refl

-- a follower is refused in a started state
pub not_next : (k : Kind) (i : ℕ) (p : List ℕ) → 1 ≤ i → i ≤ 3 → IsBlock k i p → step start p ≡ refusal 6
not_next k i p some few b =
    step_met start p proper_start ∙ ap (met start p) (rw (ne_eqb i 0 (λ e. omega arith)) at (place_follower k 0 i p some few b))

-- a proper state takes a first block; after it, a state that holds the blocks before
pub data Base (k : Kind) (h : Held) : Pieces → Type 0 where
  fresh : proper h ≡ true → Base k h []
  holds : {u : Pieces} → 1 ≤ length u → h ≡ holding k u → Base k h u

-- a first block begins a message whatever is held, and a follower is added to the blocks before it
pub join : {k : Kind} {h : Held} {u : Pieces} (p : List ℕ) → Part k u → Base k h u → IsBlock k (length u) p
    → step h p ≡ outcome (last p (suc (length u))) (holding k (u ++ (p ∷ [])))
unfolding contents
join {k} {h} p part (fresh good) b = step_met h p good ∙ ap (met h p) (place_first k h.taken p b) ∙ rw append-nil
join {k} {h} p part (holds {u} some e) b =
    rw e
    (step_met (holding k u) p (proper_holding part some)
    ∙ ap (met (holding k u) p) (rw (eq-eqb (length u) (length u) refl) at (place_follower k (length u) (length u) p some (length_part part) b))
    ∙ ap (outcome (last p (suc (length u)))) (added_holding p part))
