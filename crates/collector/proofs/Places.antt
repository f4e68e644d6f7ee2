-- Laws of a collector's pages: what stands at each place, how many are held, and what a page that is put in changes.
use Rattle.laws.proofs.Base.{◌≡◌, refl, sym, ap, ◌∙◌, not, List, [], ◌∷◌, ◌++◌, append-nil, append_assoc, ℕ, zero, suc, ◌+◌, ◌*◌, ◌-◌, ◌≤◌, ◌<◌, add-zero, arith, length, take, drop, get_or}
use Rattle.laws.proofs.Base.{take-append-drop, take_at, drop_at, drop-drop, drop_of_length-le, replicate, length-append, length-replicate, length-take-le, length-drop, eqb, eq-eqb, ne_eqb, eqb-true, eqb-false, get_or-append-add}
use Rattle.laws.specs.Upto.{count}
use Rattle.laws.proofs.Upto.{some_count, count_rest, count_more}
use Rattle.laws.proofs.Tests.{true_or_false, le_or_lt}
use borrow.Rule.Slice.PartMut.{put_mid, same_len_mid}
use Rattle.laws.proofs.Parts.{put_copy, replaced_before, replaced_in, replaced_after}
use Rattle.page.specs.Paper.{header}
use Rattle.page.proofs.Sameness.{read_halves}
use Rattle.collector.specs.Paper.{page_number, page_total, page_place, total, received_of, held, missing, blank_page, blanks, start, begun, put, is_whole}

-- numbers and totals are 1 to 15 where the number is not over the total
pub number_some : (p : List ℕ) → 1 ≤ page_number p
unfolding page_number
number_some p = (read_halves (header p).parameter).0

pub total_some : (p : List ℕ) → 1 ≤ page_total p
unfolding page_total
total_some p = (read_halves (header p).parameter).1

pub total_most : (p : List ℕ) → page_total p ≤ 15
unfolding page_total
total_most p = omega arith

-- pages that are not held
blank_length : length blank_page ≡ 89
blank_length = refl

blanks_length : (n : ℕ) → length (blanks n) ≡ 89 * n
unfolding blanks
blanks_length zero = refl
blanks_length (suc n) = length-append blank_page (blanks n) ∙ omega (arith, blank_length, blanks_length n)

blanks_received : (n j : ℕ) → get_or (blanks n) (89 * j) 0 ≡ 0
unfolding blanks
blanks_received zero j = refl
blanks_received (suc n) zero = refl
blanks_received (suc n) (suc j) =
    let there : 89 * suc j ≡ length blank_page + 89 * j = omega (arith, blank_length) in
    ap (λ (k : ℕ). get_or (blanks (suc n)) k 0) there ∙ get_or-append-add blank_page (blanks n) (89 * j) 0 ∙ blanks_received n j

blanks_snoc : (n : ℕ) → blanks n ++ blank_page ≡ blanks (suc n)
unfolding blanks
blanks_snoc zero = refl
blanks_snoc (suc n) = append_assoc blank_page (blanks n) blank_page ∙ ap (λ (x : List ℕ). blank_page ++ x) (blanks_snoc n)

-- memory in which the pages from one on are made blank: before the first turn, a turn, and after the last
pub blank_none : (m : List ℕ) (from : ℕ) → m ≡ take (page_place from) m ++ (blanks (from - from) ++ drop (page_place from) m)
unfolding blanks
blank_none m from =
    let e : from - from ≡ 0 = omega arith in
    rw e (sym (take-append-drop (page_place from) m))

module _ (m₀ m : List ℕ) (from i : ℕ) (low : from ≤ i) (long : length m₀ ≡ 1340) (made : m ≡ take (page_place from) m₀ ++ (blanks (i - from) ++ drop (page_place i) m₀)) where
  blanked : List ℕ
  blanked = take (page_place from) m₀ ++ blanks (i - from)

  pub blank_turn : (y : List ℕ) → i < 15 → length m ≡ 1340 → y ≡ blank_page
      → put_mid (page_place i) (page_place i + 89 - page_place i) m y ≡ take (page_place from) m₀ ++ (blanks (i + 1 - from) ++ drop (page_place (i + 1)) m₀)
  unfolding blanked
  blank_turn y high size e =
      let front : length blanked ≡ page_place i = length-append (take (page_place from) m₀) (blanks (i - from)) ∙ omega (arith, length-take-le (page_place from) m₀ (omega arith), blanks_length (i - from)) in
      let split : m ≡ blanked ++ drop (page_place i) m₀ = made ∙ sym (append_assoc (take (page_place from) m₀) (blanks (i - from)) (drop (page_place i) m₀)) in
      let head : take (page_place i) m ≡ blanked = ap (take (page_place i)) split ∙ take_at blanked (drop (page_place i) m₀) (page_place i) front in
      let after : page_place i + 89 ≡ page_place (i + 1) = omega arith in
      let rest : drop (page_place i + 89) m ≡ drop (page_place (i + 1)) m₀ =
      sym (drop-drop 89 (page_place i) m) ∙ ap (λ (x : List ℕ). drop 89 (drop (page_place i) x)) split
      ∙ ap (drop 89) (drop_at blanked (drop (page_place i) m₀) (page_place i) front) ∙ drop-drop 89 (page_place i) m₀ ∙ ap (λ (k : ℕ). drop k m₀) after in
      let more : suc (i - from) ≡ i + 1 - from = omega arith in
      put_copy (page_place i) (page_place i + 89) m blank_page y (omega arith) (omega arith) e
      ∙ rw (head, rest)
      (append_assoc (take (page_place from) m₀) (blanks (i - from)) (blank_page ++ drop (page_place (i + 1)) m₀)
      ∙ ap (λ (x : List ℕ). take (page_place from) m₀ ++ x)
      (sym (append_assoc (blanks (i - from)) blank_page (drop (page_place (i + 1)) m₀))
      ∙ ap (λ (x : List ℕ). x ++ drop (page_place (i + 1)) m₀) (blanks_snoc (i - from) ∙ ap blanks more)))

  pub blank_size : (y : List ℕ) → i < 15 → length m ≡ 1340 → y ≡ blank_page → length (put_mid (page_place i) (page_place i + 89 - page_place i) m y) ≡ 1340
  blank_size y high size e =
      let room : page_place i + 89 - page_place i ≤ length (drop (page_place i) m) = omega (arith, length-drop (page_place i) m) in
      let own : length y ≡ page_place i + 89 - page_place i = ap length e ∙ omega (arith, blank_length) in
      same_len_mid (page_place i) (page_place i + 89 - page_place i) m y (own ∙ sym (length-take-le (page_place i + 89 - page_place i) (drop (page_place i) m) room))
      ∙ size

  pub blank_end : i ≡ 15 → m ≡ take (page_place from) m₀ ++ blanks (15 - from)
  blank_end e =
      let past : length m₀ ≤ 1340 = omega arith in
      made ∙ rw (e, drop_of_length-le m₀ past) (ap (λ (x : List ℕ). take (page_place from) m₀ ++ x) (append-nil (blanks (15 - from))))

pub start_length : length start ≡ 1340
unfolding start
start_length = length-append (replicate 5 0) (blanks 15) ∙ omega (arith, length-replicate {A = ℕ} 5 0, blanks_length 15)

-- no page of a message that begins is held yet
module _ (p : List ℕ) (long : length p ≡ 88) where
  front_length : length (page_total p ∷ take 4 p) ≡ 5
  front_length = ap suc (length-take-le 4 p (omega arith))

  pub begun_received : (j : ℕ) → received_of (begun p) j ≡ 0
  begun_received j =
      ap (λ (k : ℕ). get_or (begun p) (k + 89 * j) 0) (sym front_length)
      ∙ get_or-append-add (page_total p ∷ take 4 p) (blanks 15) (89 * j) 0
      ∙ blanks_received 15 j

  pub begun_none : (n : ℕ) → count (held (begun p)) n ≡ 0
  unfolding count
  begun_none zero = refl
  begun_none (suc n) = rw (begun_received n, add-zero) (begun_none n)

-- a page that is put in
module _ (c p : List ℕ) (i n : ℕ) (long : length c ≡ 1340) (few : i < 15) (size : length p ≡ 88) where
  fits : page_place i + length (n ∷ p) ≡ page_place (suc i)
  fits = omega arith

  room : page_place (suc i) ≤ length c
  room = omega arith

  pub put_total : total (put c i p n) ≡ total c
  put_total = replaced_before (page_place i) (page_place (suc i)) c (n ∷ p) room fits 0 (omega arith)

  put_own : received_of (put c i p n) i ≡ n
  put_own =
      ap (λ (k : ℕ). get_or (put c i p n) k 0) (sym (add-zero (page_place i)))
      ∙ replaced_in (page_place i) (page_place (suc i)) c (n ∷ p) room fits 0 (omega arith)

  put_other : (j : ℕ) → (j ≡ i → ⊥) → received_of (put c i p n) j ≡ received_of c j
  put_other j ne =
      le_or_lt i j
      (λ l. replaced_after (page_place i) (page_place (suc i)) c (n ∷ p) room fits (page_place j) (omega arith))
      (λ l. replaced_before (page_place i) (page_place (suc i)) c (n ∷ p) room fits (page_place j) (omega arith))

  -- one more is held
  pub put_held : (t : ℕ) → i < t → received_of c i ≡ 0 → 1 ≤ n → count (held (put c i p n)) t ≡ count (held c) t + 1
  put_held t l none some =
      count_more (held c) (held (put c i p n)) t i l
      (rw none)
      (rw put_own (ap not (ne_eqb n 0 (omega arith))))
      (λ j ne. ap (λ (r : ℕ). not (eqb r 0)) (put_other j ne))

-- what is copied to the front of memory stands there
pub copied_front : (s r y : List ℕ) (n : ℕ) → length s ≡ n → y ≡ s → take n (y ++ r) ≡ s
copied_front s r y n e q = rw q (take_at s r n e)

pub take_four : (p : List ℕ) → 4 ≤ length p → take 4 p ≡ get_or p 0 0 ∷ get_or p 1 0 ∷ get_or p 2 0 ∷ get_or p 3 0 ∷ []
take_four [] h = absurd (omega arith)
take_four (a ∷ []) h = absurd (omega arith)
take_four (a ∷ b ∷ []) h = absurd (omega arith)
take_four (a ∷ b ∷ c ∷ []) h = absurd (omega arith)
take_four (a ∷ b ∷ c ∷ d ∷ p) h = refl

-- a page that is copied into the place of its size
module _ (p y : List ℕ) (size : length p ≡ 88) (copied : y ≡ p) where
  copied_page : y ++ [] ≡ p
  copied_page = append-nil y ∙ copied

  -- and then with its octets received into a collector
  pub put_copied : (c z : List ℕ) (i n : ℕ) → length c ≡ 1340 → i < 15 → z ≡ n ∷ (y ++ [])
      → put_mid (page_place i) (page_place i + 89 - page_place i) c z ≡ put c i p n
  put_copied c z i n long few e =
      let after : page_place i + 89 ≡ page_place (suc i) = omega arith in
      put_copy (page_place i) (page_place i + 89) c (n ∷ (y ++ [])) z (omega arith) (omega arith) e ∙ rw (copied_page, after)

-- those missing are the rest
pub missing_rest : (c : List ℕ) (t : ℕ) → count (missing c) t + count (held c) t ≡ t
missing_rest c t = count_rest (missing c) (held c) (λ i. refl) t

-- all are there exactly where as many are held as the total says
pub whole_count : (c : List ℕ) → is_whole c ≡ eqb (count (held c) (total c)) (total c)
whole_count c =
    let rest = missing_rest c (total c) in
    rw (some_count (missing c) (total c))
    (true_or_false (eqb (count (missing c) (total c)) 0)
    (λ e. rw (e, eq-eqb (count (held c) (total c)) (total c) (omega (arith, eqb-true (count (missing c) (total c)) 0 e))))
    (λ e. rw (e, ne_eqb (count (held c) (total c)) (total c) (λ q. eqb-false (count (missing c) (total c)) 0 e (omega arith)))))
