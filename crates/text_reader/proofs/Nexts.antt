-- Laws of septets that are read one character after another, and of the CRs dropped at the end.
use Rattle.laws.proofs.Base.{◌≡◌, refl, sym, ap, ◌∙◌, inr, Bool, true, false, and-false, List, [], ◌∷◌, ◌++◌, append_assoc, append-nil, map, map-append, ℕ, zero, suc, ◌+◌, ◌-◌, ◌<◌, ◌≤◌, add-one, le_refl}
use Rattle.laws.proofs.Base.{arith, length, get_or, set, take, drop, length-append, length-drop, length-take-le, drop-cons, drop_of_length-le, drop-length, length-map, take-append-le, take-suc-set, take-take, take-length, get_or-take, get_or-drop, list_get_d_map, eqb, eq-eqb, ne_eqb}
use Rattle.laws.specs.Search.{some}
use Rattle.laws.proofs.Search.{some_found, some_marked}
use Rattle.laws.proofs.Map.{take_map}
use Rattle.laws.proofs.Snoc.{each_snoc}
use Rattle.laws.proofs.Tests.{le_or_lt}
use Rattle.alphabet.specs.Paper.{code_point, escape, pair_point}
use Rattle.text.specs.Paper.{cr, Character, is_plain_cr, decoded, trimmed, shown, points}
use Rattle.text.proofs.Septets.{decoded_plain}
use Rattle.text.proofs.Trim.{trim_other, take_last, trim_at}
use Rattle.text_reader.specs.Inner.{Next, Remain, Read, escaping}

-- a turn of the look for 1B
pub escape_found : (s : List ℕ) (i : ℕ) → i < length s → get_or s i 0 ≡ escape → true ≡ escaping (take (i + 1) s)
escape_found s i h e = sym (some_found (λ (x : ℕ). eqb x escape) 0 (i + 1) s i (omega arith) h (eq-eqb (get_or s i 0) escape e))

pub escape_passed : (s : List ℕ) (i : ℕ) (a : Bool) → i < length s → a ≡ escaping (take i s) → (get_or s i 0 ≡ escape → ⊥) → a ≡ escaping (take (i + 1) s)
escape_passed s i a h q e = some_marked (λ (x : ℕ). eqb x escape) 0 s i a a h q (inr (ne_eqb (get_or s i 0) escape e, refl))

pub ruleset escape_steps = (escape_found, escape_passed)

-- what stands at place i of septets s
module _ (s : List ℕ) (i : ℕ) (h : i < length s) where
  pub next_own : (p : ℕ) → (get_or s i 0 ≡ escape → ⊥) → p ≡ code_point (get_or s i 0) → Next s i (record { point = p; escaped = false; after = i + 1 })
  unfolding decoded
  next_own p ne e =
      record {
        reads = rw (drop-cons s i 0 h, ne_eqb (get_or s i 0) escape ne, e, add-one i);
        further = omega arith;
        within = omega arith;
      }

  pub next_last : get_or s i 0 ≡ escape → i + 1 ≡ length s → Next s i (record { point = 0x20; escaped = false; after = i + 1 })
  unfolding decoded
  next_last e last =
      let none : drop (suc i) s ≡ [] = drop_of_length-le s {i = suc i} (omega arith) in
      record {
        reads = rw (drop-cons s i 0 h, eq-eqb (get_or s i 0) escape e, add-one i, none);
        further = omega arith;
        within = omega arith;
      }

  pub next_pair : (p : ℕ) → get_or s i 0 ≡ escape → (i + 1 ≡ length s → ⊥) → p ≡ pair_point (get_or s (i + 1) 0) → Next s i (record { point = p; escaped = true; after = i + 2 })
  unfolding decoded
  next_pair p e more q =
      let k : suc i < length s = omega (arith, h, more) in
      let two : i + 2 ≡ suc (suc i) = omega arith in
      record {
        reads = rw (drop-cons s i 0 h, eq-eqb (get_or s i 0) escape e, drop-cons s (suc i) 0 k, two, q, add-one i);
        further = omega arith;
        within = omega arith;
      }

-- past the last character there is none
abbrev unread : Character
unread = record { point = 0; escaped = false }

-- septets s read up to place i: their characters so far fill the first places of t, and those behind floor are not escaped
pub record Reached (s t : List ℕ) (at floor i : ℕ) : Type 0 where
  pub done : List Character
  pub rest : decoded false s ≡ done ++ decoded false (drop i s)
  pub count : at ≡ length done
  pub front : take at t ≡ points done
  pub few : at ≤ i
  pub within : i ≤ length s
  pub low : floor ≤ at
  pub sealed : trimmed (take floor done) ≡ take floor done
  pub plain : (k : ℕ) → k < length done → floor ≤ k → (get_or done k unread).escaped ≡ false

pub reached_start : (s t : List ℕ) → Reached s t 0 0 0
unfolding trimmed
reached_start s t =
    record {
      done = [];
      rest = refl;
      count = refl;
      front = refl;
      few = omega arith;
      within = omega arith;
      low = omega arith;
      sealed = refl;
      plain = λ k h. absurd (omega arith);
    }

-- a septet that no 1B stands before
abbrev plainly : ℕ → Character
plainly x = record { point = code_point x; escaped = false }

points_plainly : (s : List ℕ) → points (map plainly s) ≡ map code_point s
points_plainly [] = refl
points_plainly (x ∷ s) = ap (◌∷◌ (code_point x)) (points_plainly s)

none_escaped : (s : List ℕ) (k : ℕ) → (get_or (map plainly s) k unread).escaped ≡ false
none_escaped [] k = refl
none_escaped (x ∷ s) zero = refl
none_escaped (x ∷ s) (suc k) = none_escaped s k

-- septets without 1B, each a character in its place
pub reached_plainly : (s t : List ℕ) → some (λ (x : ℕ). eqb x escape) s ≡ false → take (length s) t ≡ map code_point s → Reached s t (length s) 0 (length s)
unfolding trimmed decoded
reached_plainly s t none front =
    let d : List Character = map plainly s in
    record {
      done = d;
      rest = decoded_plain s none ∙ sym (rw (drop-length s) (append-nil d));
      count = sym (length-map s plainly);
      front = front ∙ sym (points_plainly s);
      few = le_refl _;
      within = le_refl _;
      low = omega arith;
      sealed = refl;
      plain = λ k h l. none_escaped s k;
    }

-- one character more
module _ (s t : List ℕ) (at floor i : ℕ) (p : ℕ) (e : Bool) (after : ℕ) (g : Reached s t at floor i) (n : Next s i (record { point = p; escaped = e; after = after })) (room : at < length t) where
  abbrev x : Character
  x = record { point = p; escaped = e }

  abbrev more : List Character
  more = g.done ++ (x ∷ [])

  more_rest : decoded false s ≡ more ++ decoded false (drop after s)
  more_rest =
      g.rest ∙ ap (λ (l : List Character). g.done ++ l) n.reads ∙ sym (append_assoc g.done (x ∷ []) (decoded false (drop after s)))

  more_count : at + 1 ≡ length more
  more_count = rw (length-append g.done (x ∷ []), g.count)

  more_front : take (at + 1) (set t at p) ≡ points more
  more_front =
      rw (add-one at, take-suc-set t at p room, g.front)
      (sym (map-append (λ (y : Character). y.point) g.done (x ∷ [])))

  -- what was escaped is kept, and all before it
  pub reached_escaped : e ≡ true → Reached s (set t at p) (at + 1) (at + 1) after
  reached_escaped set-off =
      let all : take (at + 1) more ≡ more = rw more_count (take-length more) in
      record {
        done = more;
        rest = more_rest;
        count = more_count;
        front = more_front;
        few = omega (arith, g.few, n.further);
        within = n.within;
        low = le_refl _;
        sealed = rw all (trim_other g.done x (rw set-off (and-false (eqb p cr))));
        plain = λ k h l. absurd (omega (arith, more_count, h, l));
      }

  pub reached_plain : e ≡ false → Reached s (set t at p) (at + 1) floor after
  reached_plain none =
      let same : take floor more ≡ take floor g.done = take-append-le floor g.done (x ∷ []) (omega (arith, g.low, g.count)) in
      record {
        done = more;
        rest = more_rest;
        count = more_count;
        front = more_front;
        few = omega (arith, g.few, n.further);
        within = n.within;
        low = omega (arith, g.low);
        sealed = rw same g.sealed;
        plain = each_snoc (λ (k : ℕ) (y : Character). floor ≤ k → y.escaped ≡ false) unread g.done x g.plain (λ l. none);
      }

-- all septets read, and the CRs at the end dropped
module _ (s t : List ℕ) (at floor i n : ℕ) (g : Reached s t at floor i) (end : length s ≤ i) (m : Remain t floor at n) where
  abbrev all : List Character
  all = g.done

  all_read : decoded false s ≡ all
  unfolding decoded
  all_read =
      let none : drop i s ≡ [] = drop_of_length-le s {i = i} end in
      g.rest ∙ rw none (append-nil all)

  -- the code point at a place is that of its character
  point_at : (k : ℕ) → k < at → get_or t k 0 ≡ (get_or all k unread).point
  point_at k h =
      sym (get_or-take at t k 0 h) ∙ rw g.front (list_get_d_map (λ (y : Character). y.point) all k unread)

  dropped_cr : (k : ℕ) → k < length (drop n all) → is_plain_cr (get_or (drop n all) k unread) ≡ true
  dropped_cr k h =
      let j : ℕ = n + k in
      let below : j < at = omega (arith, h, length-drop n all, g.count) in
      let e : (get_or all j unread).point ≡ cr = sym (point_at j below) ∙ m.dropped j (omega arith) below in
      let f : (get_or all j unread).escaped ≡ false = g.plain j (omega (arith, g.count, below)) (omega (arith, m.low)) in
      rw (get_or-drop n all k unread, e, f)

  kept : trimmed (take n all) ≡ take n all
  kept =
      le_or_lt n floor
      (λ h.
      let same : n ≡ floor = omega (arith, m.low, h) in
      rw same g.sealed)
      (λ h.
      let y : Character = get_or all (n - 1) unread in
      let e : get_or t (n - 1) 0 ≡ y.point = point_at (n - 1) (omega (arith, m.high, h)) in
      let ne : y.point ≡ cr → ⊥ = λ q. m.stops h (e ∙ q) in
      rw (take_last all n unread (omega arith) (omega (arith, m.high, g.count)))
      (trim_other (take (n - 1) all) y (rw (ne_eqb y.point cr ne))))

  pub reached_end : Read s n t
  reached_end =
      let left : shown s ≡ take n all = ap trimmed all_read ∙ trim_at unread all n dropped_cr kept in
      let size : length (take n all) ≡ n = length-take-le n all (omega (arith, m.high, g.count)) in
      record {
        count = sym (ap length left ∙ size);
        front = sym (take-take n at t m.high) ∙ ap (take n) g.front ∙ take_map (λ (y : Character). y.point) n all ∙ ap points (sym left);
      }
