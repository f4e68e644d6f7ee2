-- Laws of the default alphabet and its extension: finding a septet undoes reading one, 1B aside, and finds nothing else.
use Rattle.laws.proofs.Base.{◌≡◌, refl, sym, ap, ◌∙◌, Bool, true, false, not, ◌&&◌, ◌||◌, List, [], ◌∷◌, ◌⊎◌, inl, inr, ⊎_elim, ℕ, suc, ◌+◌, ◌%◌, ◌<◌, ◌≤◌, mod-eq_of_lt}
use Rattle.laws.proofs.Base.{zero-add, add-zero, add-suc, suc-add, zero-lt-suc, arith, eqb, ltb, length, get_or, eqb-true, eqb-false, ltb-true, lt-ltb, le-ltb, ne_eqb, not-true, not-false}
use Rattle.laws.specs.Search.{some, lookup}
use Rattle.laws.specs.Table.{every}
use Rattle.laws.proofs.Search.{Looked, not_listed, listed_at, looked, lookup_map, some_false}
use Rattle.laws.proofs.Table.{at, listed_at as table_at}
use Rattle.laws.proofs.Tests.{both, le_or_lt}
use Rattle.alphabet.specs.Paper.{alphabet, code_point, septet_of, sought, no_septet, extension, pair_point, pair_septet}
use Rattle.alphabet.specs.Inner.{inverse, point_by, septet_by, pair_point_by, column, pairs}

-- the test of a septet s with its code point x: s is found again, unless it is 1B
undone : ℕ → ℕ → Bool
undone s x = eqb s 0x1b || eqb (septet_of x) s

-- the one computed test over the alphabet
all_undone : every undone 0 alphabet ≡ true
unfolding undone septet_of alphabet
all_undone = refl

code_point_at : (s : ℕ) → s < 128 → code_point s ≡ get_or alphabet s 0
unfolding code_point
code_point_at s h = rw mod-eq_of_lt

length_alphabet : length alphabet ≡ 128
unfolding alphabet
length_alphabet = refl

-- what reading makes of a septet is found as that septet, unless it is 1B
pub undoes : (s : ℕ) → s < 128 → (s ≡ 0x1b → ⊥) → septet_of (code_point s) ≡ s
unfolding undone
undoes s h ne =
    rw (code_point_at s h)
    (eqb-true _ _ (simp (ne_eqb s 0x1b ne) at (at undone alphabet all_undone s (rw length_alphabet h))))

-- a code point is below 3AA
below : ℕ → ℕ → Bool
below s x = ltb x 938

all_below : every below 0 alphabet ≡ true
unfolding below alphabet
all_below = refl

code_point_below : (s : ℕ) → s < 128 → code_point s < 938
unfolding below
code_point_below s h = rw (code_point_at s h) (ltb-true _ _ (at below alphabet all_below s (rw length_alphabet h)))

-- a code point is not 0
nonzero : ℕ → ℕ → Bool
nonzero s x = not (eqb x 0)

all_nonzero : every nonzero 0 alphabet ≡ true
unfolding nonzero alphabet
all_nonzero = refl

pub code_point_nonzero : (s : ℕ) → code_point s ≡ 0 → ⊥
unfolding code_point nonzero
code_point_nonzero s =
    eqb-false (get_or alphabet (s % 128) 0) 0 (not-true _ (at nonzero alphabet all_nonzero (s % 128) (rw length_alphabet (omega arith))))

-- what a search from septet s on ends with: the mark, or a place whose entry is c, and not 1B
data Sought (c s : ℕ) (xs : List ℕ) (r : ℕ) : Type 0 where
  missing : r ≡ no_septet → Sought c s xs r
  hit : (k : ℕ) → k < length xs → r ≡ s + k → get_or xs k 0 ≡ c → (r ≡ 0x1b → ⊥) → Sought c s xs r

sought_ends : (c s : ℕ) (xs : List ℕ) → Sought c s xs (sought c s xs)
sought_ends c s [] = missing refl
sought_ends c s (x ∷ xs) = go (eqb x c && not (eqb s 0x1b)) refl (sought_ends c (suc s) xs)
  where
    go : (b : Bool) → (eqb x c && not (eqb s 0x1b)) ≡ b → Sought c (suc s) xs (sought c (suc s) xs) → Sought c s (x ∷ xs) (sought c s (x ∷ xs))
    go true e w =
        let t = both (eqb x c) (not (eqb s 0x1b)) e in
        rw e (hit 0 (zero-lt-suc _) (sym (add-zero s)) (eqb-true x c t.0) (eqb-false s 0x1b (not-true _ t.1)))
    go false e (missing q) = rw e (missing q)
    go false e (hit k l q g ne) = rw e (hit (suc k) (omega arith) (q ∙ suc-add s k ∙ sym (add-suc s k)) g ne)

-- s is a septet other than 1B that reads as c
pub record Writes (c s : ℕ) : Type 0 where
  pub septet : s < 128
  pub reads : code_point s ≡ c
  pub spares : s ≡ 0x1b → ⊥

-- either a code point has no septet, or the one found writes it
pub found : (c : ℕ) → (septet_of c ≡ no_septet) ⊎ Writes c (septet_of c)
unfolding septet_of
found c = go (sought_ends c 0 alphabet)
  where
    go : Sought c 0 alphabet (sought c 0 alphabet) → (septet_of c ≡ no_septet) ⊎ Writes c (septet_of c)
    go (missing q) = inl q
    go (hit k l q g ne) =
        let e : septet_of c ≡ k = q ∙ zero-add k in
        let h : k < 128 = rw length_alphabet at l in
        inr (record { septet = rw e h; reads = rw e (code_point_at k h ∙ g); spares = ne })

-- an entry of the table is what its place is found as
pub entry : (table : List ℕ) (c : ℕ) → table ≡ inverse → c < 938 → get_or table c 0 ≡ septet_of c
entry table c e h = rw e (table_at septet_of 938 c h)

-- past the table there is none
pub past_table : (c : ℕ) → 938 ≤ c → septet_of c ≡ no_septet
past_table c h =
    ⊎_elim (λ e. e) (λ w. absurd (omega (arith, code_point_below (septet_of c) w.septet, w.reads))) (found c)

-- the table of septets and the mark past it have what each code point is found as
pub septet_by_lem : (table : List ℕ) (c : ℕ) → table ≡ inverse → septet_by table c ≡ septet_of c
septet_by_lem table c e =
    le_or_lt 938 c
    (λ h. rw (le-ltb c 938 h) (sym (past_table c h)))
    (λ h. rw (lt-ltb c 938 h) (entry table c e h))

-- the table of code points has what each septet reads as
pub point_by_lem : (table : List ℕ) (s : ℕ) → table ≡ alphabet → point_by table s ≡ code_point s
unfolding code_point
point_by_lem table s e = rw e

-- CR reads as itself
pub reads_cr : code_point 0x0d ≡ 0x0d
unfolding code_point alphabet
reads_cr = refl

-- the rows of the constant have what each pair is found as
pub rows_septet : (c : ℕ) → lookup (column 1) (column 0) pairs c no_septet ≡ pair_septet c
unfolding pair_septet
rows_septet c = lookup_map (λ (p : ℕ × ℕ). p.0 ∷ p.1 ∷ []) (column 1) (column 0) extension c no_septet

pub rows_point : (s x : ℕ) → lookup (column 0) (column 1) pairs s x ≡ lookup (λ (p : ℕ × ℕ). p.0) (λ (p : ℕ × ℕ). p.1) extension s x
rows_point s x = lookup_map (λ (p : ℕ × ℕ). p.0 ∷ p.1 ∷ []) (column 0) (column 1) extension s x

pub pair_point_by_lem : (table : List ℕ) (s : ℕ) → table ≡ alphabet → pair_point_by table s ≡ pair_point s
unfolding pair_point
pair_point_by_lem table s e = ap (lookup (λ (p : ℕ × ℕ). p.0) (λ (p : ℕ × ℕ). p.1) extension (s % 128)) (point_by_lem table s e)

-- the test of a pair: it is of a septet, each of its two is found by the other, and its code point is not in the alphabet
undone_pair : ℕ × ℕ → Bool
undone_pair p =
    ltb p.0 128 && (eqb (pair_point p.0) p.1 && (eqb (pair_septet p.1) p.0 && eqb (septet_of p.1) no_septet))

-- the one computed test over the extension table
all_undone_pairs : some (λ (p : ℕ × ℕ). not (undone_pair p)) extension ≡ false
unfolding some undone_pair pair_point pair_septet lookup extension septet_of alphabet code_point
all_undone_pairs = refl

-- s follows 1B where c is written, and the two read as c, which has no septet of its own
pub record WritesPair (c s : ℕ) : Type 0 where
  pub septet : s < 128
  pub reads : pair_point s ≡ c
  pub finds : pair_septet c ≡ s
  pub apart : septet_of c ≡ no_septet

-- what 1B and a listed septet read as is found as that septet, and is written by no other
pub undoes_pairs : (i : ℕ) → i < length extension → WritesPair (get_or extension i (0, 0)).1 (get_or extension i (0, 0)).0
unfolding undone_pair
undoes_pairs i h =
    let p : ℕ × ℕ = get_or extension i (0, 0) in
    let t = both _ _ (not-false _ (some_false (λ (p : ℕ × ℕ). not (undone_pair p)) (0, 0) extension i h all_undone_pairs)) in
    let u = both _ _ t.1 in
    let v = both _ _ u.1 in
    record { septet = ltb-true _ _ t.0; reads = eqb-true _ _ u.0; finds = eqb-true _ _ v.0; apart = eqb-true _ _ v.1 }

-- either a code point is in no pair, or the septet found writes it
pub found_pair : (c : ℕ) → (pair_septet c ≡ no_septet) ⊎ WritesPair c (pair_septet c)
unfolding pair_septet
found_pair c = go (looked (λ (p : ℕ × ℕ). p.1) (λ (p : ℕ × ℕ). p.0) (0, 0) extension c no_septet)
  where
    go : Looked (λ (p : ℕ × ℕ). p.1) (λ (p : ℕ × ℕ). p.0) (0, 0) extension c no_septet (pair_septet c) → (pair_septet c ≡ no_septet) ⊎ WritesPair c (pair_septet c)
    go (not_listed e) = inl e
    go (listed_at i h k e) = inr (rw e (rw k at (undoes_pairs i h)))

-- 1B and a septet that is not listed read as that septet does
pub unlisted : (s : ℕ) → ((i : ℕ) → i < length extension → (get_or extension i (0, 0)).0 ≡ s % 128 → ⊥) → pair_point s ≡ code_point s
unfolding pair_point
unlisted s none = go (looked (λ (p : ℕ × ℕ). p.0) (λ (p : ℕ × ℕ). p.1) (0, 0) extension (s % 128) (code_point s))
  where
    go : Looked (λ (p : ℕ × ℕ). p.0) (λ (p : ℕ × ℕ). p.1) (0, 0) extension (s % 128) (code_point s) (pair_point s) → pair_point s ≡ code_point s
    go (not_listed e) = e
    go (listed_at i h k e) = absurd (none i h k)

-- the code point of a pair is not 0 either
all_pairs_nonzero : some (λ (p : ℕ × ℕ). eqb p.1 0) extension ≡ false
unfolding some extension
all_pairs_nonzero = refl

pub pair_point_nonzero : (s : ℕ) → pair_point s ≡ 0 → ⊥
unfolding pair_point
pair_point_nonzero s = go (looked (λ (p : ℕ × ℕ). p.0) (λ (p : ℕ × ℕ). p.1) (0, 0) extension (s % 128) (code_point s))
  where
    go : Looked (λ (p : ℕ × ℕ). p.0) (λ (p : ℕ × ℕ). p.1) (0, 0) extension (s % 128) (code_point s) (pair_point s) → pair_point s ≡ 0 → ⊥
    go (not_listed e) z = code_point_nonzero s (sym e ∙ z)
    go (listed_at i h k e) z = eqb-false _ 0 (some_false (λ (p : ℕ × ℕ). eqb p.1 0) (0, 0) extension i h all_pairs_nonzero) (sym e ∙ z)

-- 1B twice is a space, and an escaped CR reads as itself
pub pair_escape : pair_point 0x1b ≡ 0x20
unfolding pair_point lookup extension code_point alphabet
pair_escape = refl

pub pair_cr : pair_point 0x0d ≡ 0x0d
unfolding pair_point lookup extension code_point alphabet
pair_cr = refl
