-- Laws of pages as they are laid out: what stands at each place, and what one page more changes.
use Rattle.laws.proofs.Base.{◌≡◌, refl, sym, ap, ◌∙◌, true, false, false≢true, true≢false, not, List, [], ◌∷◌, ◌++◌, append_assoc, ◌⊎◌, inl, inr, ⊎_elim, ℕ, zero, suc, ◌+◌, ◌*◌, ◌-◌, ◌≤◌, ◌<◌, zero-add, arith}
use Rattle.laws.proofs.Base.{length, take, drop, get_or, length-append, length-take-le, list_get_d_append, get_or-drop, get_or-take}
use Rattle.laws.proofs.Base.{take_at, drop_at, eqb, eq-eqb, ne_eqb, eqb-true, eqb-false, add-zero, add-one, suc-add, add-suc, drop-drop}
use Rattle.laws.specs.Search.{some}
use Rattle.laws.proofs.All.{All}
use Rattle.laws.proofs.Tests.{true_or_false}
use Rattle.sizes.specs.Paper.{whole_blocks}
use Rattle.sizes.proofs.Received.{whole_bounds}
use Rattle.page.specs.Paper.{header}
use Rattle.collector.specs.Paper.{page_place, received_of, held, blank_page, blanks, is_of, put, with_page}
use Rattle.collector.proofs.Places.{number_some, total_most}
use Rattle.collector_history.specs.Claims.{Offered, its_number, its_total, same_message, came, first_of, pages_from, page_in}

-- a page that nothing refuses
pub record Sound (g : Offered) : Type 0 where
  pub size : length g.page ≡ 88
  pub blocks : whole_blocks g.received ≡ true
  pub numbered : its_number g ≤ its_total g

-- a page is one of a list, and then the list is one part before it and one behind it
abbrev pub In : Offered → List Offered → Type 0
In a [] = ⊥
In a (b ∷ s) = (b ≡ a) ⊎ In a s

pub record Split (a : Offered) (s : List Offered) : Type 0 where
  pub older : List Offered
  pub newer : List Offered
  pub split : s ≡ older ++ (a ∷ newer)

pub in_split : (a : Offered) (s : List Offered) → In a s → Split a s
in_split a [] x' = elim x' [ ]
in_split a (b ∷ s) (inl e) = record { older = []; newer = s; split = ap (λ (x : Offered). x ∷ s) e }
in_split a (b ∷ s) (inr h) =
    let w = in_split a s h in
    record { older = b ∷ w.older; newer = w.newer; split = ap (λ (l : List Offered). b ∷ l) w.split }

pub in_append : (a : Offered) (r s : List Offered) → In a (r ++ s) → In a r ⊎ In a s
in_append a [] s h = inr h
in_append a (b ∷ r) s (inl e) = inl (inl e)
in_append a (b ∷ r) s (inr h) = ⊎_elim (λ l. inl (inr l)) inr (in_append a r s h)

pub in_before : (a : Offered) (r s : List Offered) → In a r → In a (r ++ s)
in_before a [] s x' = elim x' [ ]
in_before a (b ∷ r) s (inl e) = inl e
in_before a (b ∷ r) s (inr h) = inr (in_before a r s h)

pub in_behind : (a : Offered) (r s : List Offered) → In a s → In a (r ++ s)
in_behind a [] s h = h
in_behind a (b ∷ r) s h = inr (in_behind a r s h)

-- the place of a page, counted from 0, is below its total
pub placed : (g : Offered) → Sound g → (suc (its_number g - 1) ≡ its_number g) × (its_number g - 1 < its_total g) × (its_number g - 1 < 15)
placed g h =
    let some = number_some g.page in
    let most = total_most g.page in
    let numbered = h.numbered in
    (omega arith, omega arith, omega arith)

first_length : (s : List Offered) (k : ℕ) → All Sound s → length (first_of s k) ≡ 89
unfolding first_of
first_length [] k h = refl
first_length (a ∷ s) k h =
    true_or_false (eqb (its_number a) k)
    (λ e. rw e (ap suc h.0.size))
    (λ e. rw e (first_length s k h.1))

-- a number that has not come leaves its place blank
pub first_blank : (s : List Offered) (i : ℕ) → came s i ≡ false → first_of s (suc i) ≡ blank_page
unfolding first_of some
first_blank [] i e = refl
first_blank (a ∷ s) i e =
    true_or_false (eqb (its_number a) (suc i))
    (λ q. absurd (true≢false (rw q at e)))
    (λ q. rw q (first_blank s i (rw q at e)))

pub none_came : (i : ℕ) → came [] i ≡ false
unfolding some
none_came i = refl

-- the first page that came with a number
pub record Found (P : Offered → Type 0) (s : List Offered) (i : ℕ) : Type 0 where
  pub one : Offered
  pub among : In one s
  pub numbered : its_number one ≡ suc i
  pub first : first_of s (suc i) ≡ one.received ∷ one.page
  pub has : P one

pub found : (P : Offered → Type 0) (s : List Offered) (i : ℕ) → All P s → came s i ≡ true → Found P s i
unfolding first_of some
found P [] i h e = absurd (false≢true e)
found P (a ∷ s) i h e =
    true_or_false (eqb (its_number a) (suc i))
    (λ q. record { one = a; among = inl refl; numbered = eqb-true (its_number a) (suc i) q; first = rw q; has = h.0 })
    (λ q.
    let w = found P s i h.1 (rw q at e) in
    record { one = w.one; among = inr w.among; numbered = w.numbered; first = rw q w.first; has = w.has })

-- one page more: its place is its own if none came with its number, and the others stay
module _ (g : Offered) (i : ℕ) where
  first_earlier : (s : List Offered) → came s i ≡ true → first_of (s ++ (g ∷ [])) (suc i) ≡ first_of s (suc i)
  unfolding first_of some
  first_earlier [] e = absurd (false≢true e)
  first_earlier (a ∷ s) e =
      true_or_false (eqb (its_number a) (suc i)) (λ q. rw q) (λ q. rw q (first_earlier s (rw q at e)))

  first_other : (s : List Offered) → (its_number g ≡ suc i → ⊥) → first_of (s ++ (g ∷ [])) (suc i) ≡ first_of s (suc i)
  unfolding first_of
  first_other [] ne = rw (ne_eqb (its_number g) (suc i) ne)
  first_other (a ∷ s) ne = rw (first_other s ne)

  first_own : (s : List Offered) → came s i ≡ false → its_number g ≡ suc i → first_of (s ++ (g ∷ [])) (suc i) ≡ g.received ∷ g.page
  unfolding first_of some
  first_own [] e own = rw (eq-eqb (its_number g) (suc i) own)
  first_own (a ∷ s) e own =
      true_or_false (eqb (its_number a) (suc i)) (λ q. absurd (true≢false (rw q at e))) (λ q. rw q (first_own s (rw q at e) own))

-- pages in order
order_length : (s : List Offered) (i n : ℕ) → All Sound s → length (pages_from s i n) ≡ 89 * n
unfolding pages_from
order_length s i zero h = refl
order_length s i (suc n) h = rw (length-append, first_length s (suc i) h, order_length s (suc i) n h) (omega arith)

order_split : (s : List Offered) (i m n : ℕ) → pages_from s i (m + n) ≡ pages_from s i m ++ pages_from s (i + m) n
unfolding pages_from
order_split s i zero n = rw (zero-add n, add-zero i)
order_split s i (suc m) n =
    rw (suc-add m n, order_split s (suc i) m n, suc-add i m, add-suc i m) (sym (append_assoc (first_of s (suc i)) (pages_from s (suc i) m) (pages_from s (suc (i + m)) n)))

pub order_agree : (r s : List Offered) (i n : ℕ) → ((j : ℕ) → i ≤ j → j < i + n → first_of r (suc j) ≡ first_of s (suc j)) → pages_from r i n ≡ pages_from s i n
unfolding pages_from
order_agree r s i zero h = refl
order_agree r s i (suc n) h =
    rw (h i (omega arith) (omega arith), order_agree r s (suc i) n (λ j l m. h j (omega arith) (omega arith)))

pub order_none : (i n : ℕ) → pages_from [] i n ≡ blanks n
unfolding pages_from first_of blanks
order_none i zero = refl
order_none i (suc n) = rw (order_none (suc i) n)

-- total, serial number and identifier of q, and the pages s in order
abbrev pub laid_with : Offered → List Offered → List ℕ
laid_with q s = its_total q ∷ (take 4 q.page ++ pages_from s 0 15)

abbrev pub front : Offered → List ℕ
front q = its_total q ∷ take 4 q.page

module _ (q : Offered) (size : length q.page ≡ 88) (s : List Offered) (sound : All Sound s) where
  front_length : length (front q) ≡ 5
  front_length = ap suc (length-take-le 4 q.page (omega arith))

  pub laid_split : (i : ℕ) → i ≤ 15 → laid_with q s ≡ (front q ++ pages_from s 0 i) ++ pages_from s i (15 - i)
  laid_split i l =
      let all : 15 ≡ i + (15 - i) = omega arith in
      ap (λ (n : ℕ). front q ++ pages_from s 0 n) all
      ∙ rw (order_split s 0 i (15 - i), zero-add i) (sym (append_assoc (front q) (pages_from s 0 i) (pages_from s i (15 - i))))

  before_length : (i : ℕ) → length (front q ++ pages_from s 0 i) ≡ page_place i
  before_length i = rw (length-append (front q) (pages_from s 0 i), front_length, order_length s 0 i sound)

  pub laid_take : (i : ℕ) → i ≤ 15 → take (page_place i) (laid_with q s) ≡ front q ++ pages_from s 0 i
  laid_take i l = rw (laid_split i l) (take_at (front q ++ pages_from s 0 i) (pages_from s i (15 - i)) (page_place i) (before_length i))

  laid_drop : (i : ℕ) → i ≤ 15 → drop (page_place i) (laid_with q s) ≡ pages_from s i (15 - i)
  laid_drop i l = rw (laid_split i l) (drop_at (front q ++ pages_from s 0 i) (pages_from s i (15 - i)) (page_place i) (before_length i))

  pub laid_length : length (laid_with q s) ≡ 1340
  laid_length = length-append (front q) (pages_from s 0 15) ∙ omega (arith, front_length, order_length s 0 15 sound)

  -- what stands at a page's place is the first that came with its number
  laid_page : (i : ℕ) → i < 15 → drop (page_place i) (laid_with q s) ≡ first_of s (suc i) ++ pages_from s (suc i) (14 - i)
  unfolding pages_from
  laid_page i l =
      let more : 15 - i ≡ suc (14 - i) = omega arith in
      laid_drop i (omega arith) ∙ ap (λ (n : ℕ). pages_from s i n) more

  pub laid_received : (i : ℕ) → i < 15 → received_of (laid_with q s) i ≡ get_or (first_of s (suc i)) 0 0
  laid_received i l =
      ap (λ (k : ℕ). get_or (laid_with q s) k 0) (sym (add-zero (page_place i)))
      ∙ sym (get_or-drop (page_place i) (laid_with q s) 0 0)
      ∙ ap (λ (x : List ℕ). get_or x 0 0) (laid_page i l)
      ∙ list_get_d_append (first_of s (suc i)) (pages_from s (suc i) (14 - i)) 0 0 (rw (first_length s (suc i) sound) (omega arith))

  -- read off again
  module _ (P : Offered → Type 0) (i : ℕ) (l : i < 15) (w : Found P s i) where
    pub received_in : received_of (laid_with q s) i ≡ w.one.received
    received_in = laid_received i l ∙ ap (λ (x : List ℕ). get_or x 0 0) w.first

    pub page_in_lem : length w.one.page ≡ 88 → page_in (laid_with q s) i ≡ w.one.page
    page_in_lem whole =
        let rest = pages_from s (suc i) (14 - i) in
        ap (take 88) (
        ap (λ (k : ℕ). drop k (laid_with q s)) (sym (add-one (page_place i)))
        ∙ sym (drop-drop 1 (page_place i) (laid_with q s))
        ∙ ap (drop 1) (laid_page i l ∙ ap (λ (x : List ℕ). x ++ rest) w.first)
        )
        ∙ take_at w.one.page rest 88 whole

  pub laid_held : (i : ℕ) → i < 15 → held (laid_with q s) i ≡ came s i
  laid_held i l =
      true_or_false (came s i)
      (λ e.
      let w = found Sound s i sound e in
      let some = whole_bounds w.one.received w.has.blocks in
      rw (laid_received i l, w.first, e) (ap not (ne_eqb w.one.received 0 (omega arith))))
      (λ e. rw (laid_received i l, first_blank s i e, e))

  -- a page that is put in, or passed over, is laid out with the others
  module _ (g : Offered) (right : Sound g) where
    abbrev at : ℕ
    at = its_number g - 1

    put_laid : came s at ≡ false → put (laid_with q s) at g.page g.received ≡ laid_with q (s ++ (g ∷ []))
    unfolding pages_from
    put_laid none =
        let p = placed g right in
        let r = s ++ (g ∷ []) in
        let all : 15 ≡ at + suc (14 - at) = omega (arith, p.2) in
        let rest : 15 - suc at ≡ 14 - at = omega arith in
        let own : first_of r (suc at) ≡ g.received ∷ g.page = first_own g at s none (sym p.0) in
        let low : pages_from r 0 at ≡ pages_from s 0 at = order_agree r s 0 at (λ j l m. first_other g j s (λ e. omega arith)) in
        let high : pages_from r (suc at) (14 - at) ≡ pages_from s (suc at) (14 - at) = order_agree r s (suc at) (14 - at) (λ j l m. first_other g j s (λ e. omega arith)) in
        rw (laid_take at (omega (arith, p.2)), laid_drop (suc at) (omega (arith, p.2)), rest)
        (sym (
        ap (λ (n : ℕ). front q ++ pages_from r 0 n) all
        ∙ rw (order_split r 0 at (suc (14 - at)), zero-add at, own, low, high)
        (sym (append_assoc (front q) (pages_from s 0 at) ((g.received ∷ g.page) ++ pages_from s (suc at) (14 - at))))
        ))

    passed_laid : came s at ≡ true → laid_with q s ≡ laid_with q (s ++ (g ∷ []))
    passed_laid e =
        let p = placed g right in
        ap (λ (x : List ℕ). front q ++ x)
        (sym (order_agree (s ++ (g ∷ [])) s 0 15 (λ j l m.
        true_or_false (eqb (its_number g) (suc j))
        (λ f. let own : j ≡ at = omega (arith, eqb-true (its_number g) (suc j) f) in rw own (first_earlier g at s e))
        (λ f. first_other g j s (eqb-false (its_number g) (suc j) f)))))

    pub kept_laid : with_page (laid_with q s) g.page g.received ≡ laid_with q (s ++ (g ∷ []))
    kept_laid =
        let p = placed g right in
        true_or_false (came s at)
        (λ e. rw (laid_held at p.2, e) (passed_laid e))
        (λ e. rw (laid_held at p.2, e) (put_laid e))

-- what tells a message stands in front
pub header_front : (p x : List ℕ) → length p ≡ 88 → ((header (take 4 p ++ x)).serial ≡ (header p).serial) × ((header (take 4 p ++ x)).id ≡ (header p).id)
unfolding header
header_front p x size =
    let four : length (take 4 p) ≡ 4 = length-take-le 4 p (omega arith) in
    let same : (k : ℕ) → k < 4 → get_or (take 4 p ++ x) k 0 ≡ get_or p k 0 = λ k l. list_get_d_append (take 4 p) x 0 k (rw four l) ∙ get_or-take 4 p k 0 l in (
      rw (same 0 (omega arith), same 1 (omega arith)),
      rw (same 2 (omega arith), same 3 (omega arith)),
    )

pub laid_is_of : (q : Offered) (s : List Offered) (g : Offered) → length q.page ≡ 88 → is_of (laid_with q s) g.page ≡ same_message q g
unfolding is_of same_message
laid_is_of q s g size = let h = header_front q.page (pages_from s 0 15) size in rw (h.0, h.1)
