-- Laws of looking through a text: which characters have septets, and how many.
use Rattle.laws.proofs.Base.{◌≡◌, refl, sym, ap, ◌∙◌, Bool, true, false, true≢false, false≢true, ◌&&◌, inr, ⊎_elim, List, [], ◌∷◌, append-nil, ℕ, suc, ◌+◌, ◌*◌, ◌<◌, ◌≤◌, add-one, arith, eqb, leb, length, get_or, take, take-suc, take-length, length-append, lt-leb, le-leb, leb-true, leb-false, ne_eqb}
use Rattle.std.specs.Prelude.{Option, None, Some}
use Rattle.laws.specs.Search.{some}
use Rattle.laws.proofs.Search.{some_implies, some_agree, some_false, some_turn, some_found, some_marked}
use Rattle.laws.proofs.Tests.{neither, true_or_false}
use Rattle.alphabet.specs.Paper.{septet_of, no_septet, escape, pair_septet}
use Rattle.alphabet.specs.Inner.{inverse}
use Rattle.alphabet.proofs.Laws.{found, past_table, entry}
use Rattle.text.specs.Paper.{foreign, septets_of, unpadded}
use Rattle.text.proofs.Septets.{Spelled, by_own, by_pair, by_none, spelled, known_first, unpadded_append}
use Rattle.text_writer.specs as defs
use defs.Inner.{Known, past, odd, looked}

-- what is found for c is no septet
abbrev pub none : ℕ → Bool
none c = leb 128 (septet_of c)

none_marked : (c : ℕ) → none c ≡ eqb (septet_of c) no_septet
none_marked c =
    ⊎_elim (λ e. rw e)
    (λ w. lt-leb 128 (septet_of c) w.septet ∙ sym (ne_eqb (septet_of c) no_septet (λ e. omega (arith, w.septet))))
    (found c)

pub odd_some : (t : List ℕ) → odd t ≡ some none t
odd_some t = sym (some_agree none (λ (c : ℕ). eqb (septet_of c) no_septet) none_marked t)

pub past_odd : (t : List ℕ) → past t ≡ true → odd t ≡ true
past_odd t e = odd_some t ∙ some_implies (leb 938) none (λ c h. rw (past_table c (leb-true 938 c h))) t e

-- where no character is past the table, each has an entry
pub none_past : (t : List ℕ) (i : ℕ) → i < length t → past t ≡ false → get_or t i 0 < 938
none_past t i h e = leb-false 938 (get_or t i 0) (some_false (leb 938) 0 t i h e)

-- a turn of the look for a character past the table
pub past_found : (t : List ℕ) (i : ℕ) → i < length t → 938 ≤ get_or t i 0 → true ≡ past (take (i + 1) t)
past_found t i h e = sym (some_found (leb 938) 0 (i + 1) t i (omega arith) h (le-leb 938 (get_or t i 0) e))

pub past_passed : (t : List ℕ) (i : ℕ) (a : Bool) → i < length t → a ≡ past (take i t) → get_or t i 0 < 938 → a ≡ past (take (i + 1) t)
past_passed t i a h q e = some_marked (leb 938) 0 t i a a h q (inr (lt-leb 938 (get_or t i 0) e, refl))

pub ruleset past_steps = (past_found, past_passed)

-- a turn of the look for a character whose entry is no septet
module _ (table t : List ℕ) (i : ℕ) (ours : table ≡ inverse) (p : past t ≡ false) (h : i < length t) where
  pub none_found : 128 ≤ get_or table (get_or t i 0) 0 → true ≡ some none (take (i + 1) t)
  none_found k =
      let e = entry table (get_or t i 0) ours (none_past t i h p) in
      sym (some_found none 0 (i + 1) t i (omega arith) h (le-leb 128 (septet_of (get_or t i 0)) (omega (arith, e, k))))

  pub none_passed : (a : Bool) → a ≡ some none (take i t) → get_or table (get_or t i 0) 0 < 128 → a ≡ some none (take (i + 1) t)
  none_passed a q k =
      let e = entry table (get_or t i 0) ours (none_past t i h p) in
      some_marked none 0 t i a a h q (inr (lt-leb 128 (septet_of (get_or t i 0)) (omega (arith, e, k)), refl))

pub ruleset none_steps = (none_past, none_found, none_passed, odd_some)

-- the septets of a character, by what the tables have for it
module _ (c : ℕ) where
  pub spelled_own : septet_of c < 128 → septets_of c ≡ septet_of c ∷ []
  spelled_own h = go (spelled c)
    where
      go : Spelled c → septets_of c ≡ septet_of c ∷ []
      go (by_own w e) = e
      go (by_pair w e) = absurd (omega (arith, h, w.apart))
      go (by_none e _ _) = absurd (omega (arith, h, e))

  module _ (h : 128 ≤ septet_of c) where
    pub spelled_pair : pair_septet c < 128 → septets_of c ≡ escape ∷ pair_septet c ∷ []
    spelled_pair k = go (spelled c)
      where
        go : Spelled c → septets_of c ≡ escape ∷ pair_septet c ∷ []
        go (by_own w e) = absurd (omega (arith, h, w.septet))
        go (by_pair w e) = e
        go (by_none _ e _) = absurd (omega (arith, k, e))

    pub spelled_none : 128 ≤ pair_septet c → septets_of c ≡ []
    spelled_none k = go (spelled c)
      where
        go : Spelled c → septets_of c ≡ []
        go (by_own w e) = absurd (omega (arith, h, w.septet))
        go (by_pair w e) = absurd (omega (arith, k, w.septet))
        go (by_none _ _ e) = e

  pub width_most : length (septets_of c) ≤ 2
  width_most = go (spelled c)
    where
      go : Spelled c → length (septets_of c) ≤ 2
      go (by_own _ e) = rw e (omega arith)
      go (by_pair _ e) = rw e (omega arith)
      go (by_none _ _ e) = rw e (omega arith)

-- a character that neither table has
abbrev alien : ℕ → Bool
alien c = eqb (septet_of c) no_septet && eqb (pair_septet c) no_septet

foreign_some : (t : List ℕ) → foreign t ≡ some alien t
unfolding foreign some
foreign_some [] = refl
foreign_some (c ∷ t) = rw (foreign_some t)

alien_none : (c : ℕ) → length (septets_of c) ≡ 0 → alien c ≡ true
alien_none c z = go (spelled c)
  where
    go : Spelled c → alien c ≡ true
    go (by_own _ e) = absurd (omega (arith, z, ap length e))
    go (by_pair _ e) = absurd (omega (arith, z, ap length e))
    go (by_none e n _) = rw (e, n)

known_some : (c : ℕ) → (length (septets_of c) ≡ 0 → ⊥) → alien c ≡ false
known_some c some = go (spelled c)
  where
    go : Spelled c → alien c ≡ false
    go (by_own w _) = rw (ne_eqb (septet_of c) no_septet (λ e. omega (arith, w.septet, e)))
    go (by_pair w _) = rw (w.apart, ne_eqb (pair_septet c) no_septet (λ e. omega (arith, w.septet, e)))
    go (by_none _ _ e) = absurd (some (ap length e))

-- each character of a text that is in the tables is in them
pub known_at : (t : List ℕ) (i : ℕ) → i < length t → foreign t ≡ false → foreign (get_or t i 0 ∷ []) ≡ false
unfolding foreign
known_at t i h e = rw (some_false alien 0 t i h (sym (foreign_some t) ∙ e))

-- a character in the tables that has no septet of its own is in a pair
pub known_pair : (c : ℕ) → foreign (c ∷ []) ≡ false → 128 ≤ septet_of c → pair_septet c < 128
known_pair c known h = go (spelled c)
  where
    go : Spelled c → pair_septet c < 128
    go (by_own w _) = absurd (omega (arith, h, w.septet))
    go (by_pair w _) = w.septet
    go (by_none e n _) = absurd (known_first c [] known e n)

-- which of the two was found
is_foreign : Option ℕ → Bool
is_foreign None = true
is_foreign (Some n) = false

septets_in : Option ℕ → ℕ
septets_in None = 0
septets_in (Some n) = n

pub found_foreign : (t : List ℕ) → None ≡ looked t → foreign t ≡ true
unfolding is_foreign
found_foreign t q = true_or_false (foreign t) (λ e. e) (λ e. absurd (true≢false (ap is_foreign (rw e at q))))

pub found_septets : (t : List ℕ) (n : ℕ) → Some n ≡ looked t → Known t n
unfolding is_foreign septets_in
found_septets t n q =
    true_or_false (foreign t)
    (λ e. absurd (false≢true (ap is_foreign (rw e at q))))
    (λ e. record { known = e; counted = ap septets_in (rw e at q) })

-- what is found in a text of one character
pub found_one : (c n : ℕ) → length (septets_of c) ≡ n → (n ≡ 0 → ⊥) → Some n ≡ looked (c ∷ [])
unfolding foreign unpadded
found_one c n e some = rw (known_some c (λ z. some (sym e ∙ z)), append-nil (septets_of c), e)

pub found_none : (c : ℕ) → septets_of c ≡ [] → None ≡ looked (c ∷ [])
unfolding foreign
found_none c e = rw (alien_none c (ap length e))

one_foreign : (c : ℕ) → None ≡ looked (c ∷ []) → alien c ≡ true
unfolding foreign
one_foreign c q =
    true_or_false (alien c) (λ e. e) (λ e. absurd (true≢false (sym (found_foreign (c ∷ []) q) ∙ rw e)))

one_counted : (c n : ℕ) → Some n ≡ looked (c ∷ []) → n ≡ length (septets_of c)
unfolding unpadded
one_counted c n q = (found_septets (c ∷ []) n q).counted ∙ ap length (append-nil (septets_of c))

pub one_most : (c n : ℕ) → Some n ≡ looked (c ∷ []) → n ≤ 2
one_most c n q = omega (arith, one_counted c n q, width_most c)

one_known : (c n : ℕ) → Some n ≡ looked (c ∷ []) → alien c ≡ false
unfolding foreign
one_known c n q = (neither (alien c) false (found_septets (c ∷ []) n q).known).0

-- a look at the first i characters, which are in the tables and have n septets
pub record Passed (t : List ℕ) (i n : ℕ) : Type 0 where
  pub within : i ≤ length t
  pub known : foreign (take i t) ≡ false
  pub counted : n ≡ length (unpadded (take i t))
  pub few : n ≤ 2 * i

pub passed_start : (t : List ℕ) → Passed t 0 0
unfolding foreign unpadded
passed_start t = record { within = omega arith; known = refl; counted = refl; few = omega arith }

module _ (t : List ℕ) (i n : ℕ) (g : Passed t i n) (h : i < length t) where
  -- one more that neither table has
  pub passed_foreign : None ≡ looked (get_or t i 0 ∷ []) → None ≡ looked t
  passed_foreign q =
      let e : foreign t ≡ true = foreign_some t ∙ rw (take-length t) at (some_found alien 0 (length t) t i h h (one_foreign (get_or t i 0) q)) in
      rw e

  pub passed_turn : (w : ℕ) → Some w ≡ looked (get_or t i 0 ∷ []) → Passed t (i + 1) (n + w)
  unfolding unpadded
  passed_turn w q =
      let c : ℕ = get_or t i 0 in
      let e : w ≡ length (septets_of c) = one_counted c w q in
      record {
        within = omega arith;
        known = foreign_some (take (i + 1) t) ∙ some_turn alien 0 t i h (sym (foreign_some (take i t)) ∙ g.known) (one_known c w q);
        counted =
            rw (add-one i, take-suc t i 0 h, unpadded_append (take i t) (c ∷ []), append-nil (septets_of c), length-append (unpadded (take i t)) (septets_of c), g.counted, e);
        few = omega (arith, g.few, e, width_most c);
      }

-- the whole text is looked through
pub passed_end : (t : List ℕ) (i n : ℕ) → Passed t i n → length t ≤ i → Some n ≡ looked t
passed_end t i n g h =
    let all : i ≡ length t = omega (arith, g.within) in
    let known : foreign t ≡ false = rw (all, take-length t) at g.known in
    let counted : n ≡ length (unpadded t) = rw (all, take-length t) at g.counted in
    rw (known, counted)

-- a plain text has a septet for each character
plain_known : (t : List ℕ) → odd t ≡ false → Known t (length t)
unfolding some foreign unpadded
plain_known [] e = record { known = refl; counted = refl }
plain_known (c ∷ t) e =
    let n = neither (eqb (septet_of c) no_septet) (odd t) e in
    let k = plain_known t n.1 in
    let one : septets_of c ≡ septet_of c ∷ [] = spelled_own c (leb-false 128 (septet_of c) (none_marked c ∙ n.0)) in
    record { known = rw n.0 k.known; counted = rw one (ap suc k.counted) }

pub plain_text : (t : List ℕ) → odd t ≡ false → Some (length t) ≡ looked t
plain_text t e = let k = plain_known t e in rw k.known (ap Some k.counted)
