-- The theorems on pages given in order from a start: a collector is at any time the pages that came since the last start, hand-out or drop, laid out.
use Rattle.laws.proofs.Base.{◌≡◌, refl, subst, sym, ap, ◌∙◌, ◌⊎◌, inl, inr, Bool, true, false, false≢true, cond, not, or-true, List, [], ◌∷◌, ◌++◌, ℕ, zero, suc, ◌-◌, ◌≤◌, ◌<◌}
use Rattle.laws.proofs.Base.{and-false, arith, length, take, eqb, eq-eqb, ne_eqb, eqb-true, eqb-false, le-ltb, le-leb, lt-ltb, ltb-false, not-true, not-false}
use Rattle.laws.proofs.Ruled.{others, none_holds, ruled_none, ruled_passes}
use Rattle.laws.proofs.Outcome.{ruled_refuses}
use Rattle.laws.specs.Search.{some}
use Rattle.laws.proofs.All.{All, all_snoc, all_append, all_weaker}
use Rattle.laws.proofs.Search.{some_append}
use Rattle.laws.specs.Upto.{some_below}
use Rattle.laws.proofs.Upto.{some_none, some_at, some_false, some_agree}
use Rattle.laws.proofs.Tests.{true_or_false, both}
use Rattle.page.specs.Paper.{header}
use Rattle.collector.specs.Paper.{total, held, missing, wrong, proper, blanks, start, begun, is_of, goes_on, with_page, is_whole, whole_message, Taken, settled, page_faults, untaken, taken}
use Rattle.collector.proofs.Places.{total_some, total_most}
use Rattle.collector_history.specs.Claims as claims
use claims.{Offered, its_number, its_total, refused_by, same_message, with_new, came, all_came, counting, since_then, since, since_with, pages_from, laid, after, answered}
use claims.{Came, Whole, MessageExactly, MessageGives, MessageKeeps, MessageRefuses, WholeDecided, CollectorProper, CollectorHolds, SinceFollows}
use Rattle.collector_history.proofs.Laid.{Sound, in_split, placed, found, first_blank, none_came, order_agree, order_none, front, laid_with, laid_split, laid_take, laid_received, laid_held, kept_laid, laid_is_of}

-- a page that is not refused is sound
pub sound : (g : Offered) → refused_by g ≡ 0 → Sound g
unfolding refused_by
sound g e =
    let h = none_holds (page_faults g.page g.received) 0 (others 0 (page_faults g.page g.received) refl) e in
    record {
      size = eqb-true (length g.page) 88 (not-false _ h.0);
      blocks = not-false _ h.1.0;
      numbered = ltb-false (its_total g) (its_number g) h.1.1.0;
    }

pub unrefused : (g : Offered) → Sound g → refused_by g ≡ 0
unfolding refused_by
unrefused g h = rw (eq-eqb (length g.page) 88 h.size, h.blocks, le-ltb (its_total g) (its_number g) h.numbered)

-- what is taken of a page that is not refused, and of one that is
taken_right : (c : List ℕ) (g : Offered) → refused_by g ≡ 0 → taken c g.page g.received ≡ settled (with_page (goes_on c g.page) g.page g.received)
unfolding taken refused_by
taken_right c g e =
    let ts = page_faults g.page g.received in
    ruled_none (untaken c) ts (settled (with_page (goes_on c g.page) g.page g.received)) (none_holds ts 0 (others 0 ts refl) e)

taken_refused : (c : List ℕ) (g : Offered) → (refused_by g ≡ 0 → ⊥) → taken c g.page g.received ≡ record { number = refused_by g; pages = 0; next = c; message = [] }
unfolding taken refused_by
taken_refused c g ne = ruled_refuses (page_faults g.page g.received) (refused_by g) refl ne Taken (untaken c) (settled (with_page (goes_on c g.page) g.page g.received))

-- pages of one message
same_itself : (g : Offered) → same_message g g ≡ true
unfolding same_message
same_itself g =
    rw (eq-eqb (its_total g) (its_total g) refl, eq-eqb (header g.page).serial (header g.page).serial refl, eq-eqb (header g.page).id (header g.page).id refl)

same_total : (a b : Offered) → same_message a b ≡ true → its_total a ≡ its_total b
unfolding same_message
same_total a b e = eqb-true (its_total a) (its_total b) (both _ _ e).0

abbrev pub Of : Offered → Offered → Type 0
Of a b = Sound b × (same_message a b ≡ true)

-- pages that are laid out together: one message, all sound
pub data Together : List Offered → Offered → Type 0 where
  together : {a : Offered} {s : List Offered} {g : Offered} → All (Of a) (a ∷ s) → its_total a ≡ its_total g → Together (a ∷ s) g

-- pages that a collector can hold: none, or some but not all of one message
pub data Standing : List Offered → Type 0 where
  none : Standing []
  some_came : {a : Offered} {s : List Offered} → All (Of a) (a ∷ s) → all_came (a ∷ s) (its_total a) ≡ false → Standing (a ∷ s)

pub all_sound : (a : Offered) (s : List Offered) → All (Of a) s → All Sound s
all_sound a = all_weaker Sound (Of a) (λ b h. h.0)

alone : (g : Offered) → Sound g → Together (g ∷ []) g
alone g h = together ((h, same_itself g), tt) refl

pub join : (s : List Offered) (g : Offered) → Standing s → Sound g → Together (with_new s g) g
unfolding with_new
join [] g x h = alone g h
join (a ∷ s) g (some_came all m) h =
    true_or_false (same_message a g)
    (λ e. rw e (together (all_snoc (Of a) (a ∷ s) g all (h, e)) (same_total a g e)))
    (λ e. rw e (alone g h))

-- a page that begins
begins : (g : Offered) → Sound g → with_page (begun g.page) g.page g.received ≡ laid (g ∷ [])
unfolding laid
begins g h =
    ap (λ (x : List ℕ). with_page (its_total g ∷ (take 4 g.page ++ x)) g.page g.received) (sym (order_none 0 15))
    ∙ kept_laid g h.size [] tt g h

start_total : total start ≡ 0
unfolding start
start_total = refl

-- what is laid out with one page more
next_laid : (s : List Offered) (g : Offered) → Standing s → Sound g
    → with_page (goes_on (laid s) g.page) g.page g.received ≡ laid (with_new s g)
unfolding laid with_new is_of
next_laid [] g x h =
    let other : eqb (total start) (its_total g) ≡ false = ne_eqb (total start) (its_total g) (λ e. omega (arith, start_total, total_some g.page)) in
    rw other (begins g h)
next_laid (a ∷ s) g (some_came all m) h =
    let size = all.0.0.size in
    let is = laid_is_of a (a ∷ s) g size in
    true_or_false (same_message a g)
    (λ e. rw (is, e) (kept_laid a size (a ∷ s) (all_sound a (a ∷ s) all) g h))
    (λ e. rw (is, e) (begins g h))

not_twice : (b : Bool) → not (not b) ≡ b
not_twice true = refl
not_twice false = refl

module _ (a : Offered) (s : List Offered) (all : All (Of a) (a ∷ s)) where
  abbrev pages : List Offered
  pages = a ∷ s

  size : length a.page ≡ 88
  size = all.0.0.size

  sounds : All Sound pages
  sounds = all_sound a pages all

  -- all are there exactly where each has come
  whole_laid : is_whole (laid pages) ≡ all_came pages (its_total a)
  unfolding laid
  whole_laid =
      ap not (some_agree (missing (laid_with a pages)) (λ i. not (came pages i)) (its_total a)
      (λ i l. let few : i < 15 = omega (arith, total_most a.page) in missing_came i few))
    where
      missing_came : (i : ℕ) → i < 15 → missing (laid_with a pages) i ≡ not (came pages i)
      missing_came i few = sym (not_twice (missing (laid_with a pages) i)) ∙ ap not (laid_held a size pages sounds i few)

  -- none has come past the total
  past : (i : ℕ) → its_total a ≤ i → came pages i ≡ false
  past i l =
      true_or_false (came pages i)
      (λ e.
      let w = found (Of a) pages i all e in
      absurd (omega (arith, w.numbered, w.has.0.numbered, same_total a w.one w.has.1)))
      (λ e. e)

  message_laid : whole_message (laid pages) ≡ laid pages
  unfolding laid
  message_laid =
      let t = its_total a in
      let most : t ≤ 15 = total_most a.page in
      let rest : pages_from pages t (15 - t) ≡ blanks (15 - t) =
      order_agree pages [] t (15 - t) (λ j l m. first_blank pages j (past j l) ∙ sym (first_blank [] j (none_came j))) ∙ order_none t (15 - t) in
      ap (λ (x : List ℕ). x ++ blanks (15 - t)) (laid_take a size pages sounds t most)
      ∙ ap (λ (x : List ℕ). (front a ++ pages_from pages 0 t) ++ x) (sym rest)
      ∙ sym (laid_split a size pages sounds t most)

  -- the first of them is among them
  own_came : came pages (its_number a - 1) ≡ true
  unfolding some
  own_came = rw (eq-eqb (its_number a) (suc (its_number a - 1)) (sym (placed a all.0.0).0))

  none_wrong : (i : ℕ) → i < 15 → wrong (laid_with a pages) i ≡ false
  none_wrong i l =
      true_or_false (came pages i)
      (λ e.
      let w = found (Of a) pages i all e in
      let below : i < its_total a = omega (arith, w.numbered, w.has.0.numbered, same_total a w.one w.has.1) in
      rw (laid_received a size pages sounds i l, w.first, lt-ltb i (its_total a) below, w.has.0.blocks) (and-false (not (eqb w.one.received 0))))
      (λ e. rw (laid_held a size pages sounds i l, e))

  -- a collector that holds them is proper if not all have come
  proper_laid : all_came pages (its_total a) ≡ false → proper (laid pages) ≡ true
  unfolding laid proper
  proper_laid some-missing =
      let t = its_total a in
      let p = placed a all.0.0 in
      let c = laid_with a pages in
      let some_held : some_below (held c) t ≡ true = some_at (held c) t (its_number a - 1) p.1 (laid_held a size pages sounds (its_number a - 1) p.2 ∙ own_came) in
      let missed : some_below (missing c) t ≡ true = not-false (some_below (missing c) t) (whole_laid ∙ some-missing) in
      rw (some_none (wrong c) 15 none_wrong, ne_eqb t 0 (λ e. omega (arith, total_some a.page)), le-leb t 15 (total_most a.page), some_held, missed)

  -- handed out if all have come, and kept otherwise
  settled_laid : settled (laid pages)
      ≡ cond (all_came pages (its_total a)) (record { number = 0; pages = its_total a; next = start; message = laid pages }) (record { number = 1; pages = 0; next = laid pages; message = [] })
  unfolding laid
  settled_laid =
      ap (λ (b : Bool). cond b (record { number = 0; pages = its_total a; next = start; message = whole_message (laid pages) }) (record { number = 1; pages = 0; next = laid pages; message = [] })) whole_laid
      ∙ ap (λ (m : List ℕ). cond (all_came pages (its_total a)) (record { number = 0; pages = its_total a; next = start; message = m }) (record { number = 1; pages = 0; next = laid pages; message = [] })) message_laid

-- what a page after s leaves, by the list alone
abbrev pub told : List Offered → Offered → Taken
told s g =
    cond (eqb (refused_by g) 0)
    (cond (all_came (with_new s g) (its_total g))
    (record { number = 0; pages = its_total g; next = start; message = laid (with_new s g) })
    (record { number = 1; pages = 0; next = laid (with_new s g); message = [] }))
    (record { number = refused_by g; pages = 0; next = laid s; message = [] })

settled_together : (r : List Offered) (g : Offered) → Together r g → settled (laid r)
    ≡ cond (all_came r (its_total g)) (record { number = 0; pages = its_total g; next = start; message = laid r }) (record { number = 1; pages = 0; next = laid r; message = [] })
settled_together [] g x' = elim x' [ ]
settled_together (a ∷ s) g (together all e) =
    settled_laid a s all
    ∙ ap (λ (t : ℕ). cond (all_came (a ∷ s) t) (record { number = 0; pages = t; next = start; message = laid (a ∷ s) }) (record { number = 1; pages = 0; next = laid (a ∷ s); message = [] })) e

taken_told : (s : List Offered) (g : Offered) → Standing s → taken (laid s) g.page g.received ≡ told s g
taken_told s g x =
    true_or_false (eqb (refused_by g) 0)
    (λ e.
    let z = eqb-true (refused_by g) 0 e in
    let h = sound g z in
    taken_right (laid s) g z ∙ ap settled (next_laid s g x h) ∙ settled_together (with_new s g) g (join s g x h) ∙ sym (rw e))
    (λ e. taken_refused (laid s) g (eqb-false (refused_by g) 0 e) ∙ sym (rw e))

-- pages that are not all there are standing
left_standing : (r : List Offered) (g : Offered) → Together r g → all_came r (its_total g) ≡ false → Standing r
left_standing [] g x'' m = elim x'' [ ]
left_standing (a ∷ s) g (together all e) m = some_came all (ap (λ (t : ℕ). all_came (a ∷ s) t) e ∙ m)

pub counting_standing : (s : List Offered) (g : Offered) → Standing s → Standing (counting s g)
counting_standing s g x =
    true_or_false (eqb (refused_by g) 0)
    (λ e. true_or_false (all_came (with_new s g) (its_total g))
    (λ m. rw (e, m) none)
    (λ m. rw (e, m) (left_standing (with_new s g) g (join s g x (sound g (eqb-true (refused_by g) 0 e))) m)))
    (λ e. rw e x)

told_next : (s : List Offered) (g : Offered) → (told s g).next ≡ laid (counting s g)
unfolding laid
told_next s g =
    true_or_false (eqb (refused_by g) 0)
    (λ e. true_or_false (all_came (with_new s g) (its_total g)) (λ m. rw (e, m)) (λ m. rw (e, m)))
    (λ e. rw e)

pub taken_next : (s : List Offered) (g : Offered) → Standing s → (taken (laid s) g.page g.received).next ≡ laid (counting s g)
taken_next s g x = ap (λ (t : Taken). t.next) (taken_told s g x) ∙ told_next s g

-- a collector follows the pages that count
after_laid : (s gs : List Offered) → Standing s → (after (laid s) gs ≡ laid (since_then s gs)) × Standing (since_then s gs)
unfolding after since_then
after_laid s [] x = (refl, x)
after_laid s (g ∷ gs) x =
    rw (taken_next s g x) (after_laid (counting s g) gs (counting_standing s g x))

pub since_standing : (gs : List Offered) → Standing (since gs)
since_standing gs = (after_laid [] gs none).1

pub after_start : (gs : List Offered) → after start gs ≡ laid (since gs)
unfolding laid
after_start gs = (after_laid [] gs none).0

pub answered_told : (gs : List Offered) (g : Offered) → answered gs g ≡ told (since gs) g
answered_told gs g = ap (λ (c : List ℕ). taken c g.page g.received) (after_start gs) ∙ taken_told (since gs) g (since_standing gs)

pub standing_proper : (s : List Offered) → Standing s → proper (laid s) ≡ true
unfolding laid proper start blanks some_below
standing_proper [] none = refl
standing_proper (a ∷ s) (some_came all m) = proper_laid a s all m

pub collector_proper : CollectorProper
collector_proper gs = rw (after_start gs) (standing_proper (since gs) (since_standing gs))

-- a number is among pages exactly where the search finds it
came_record : (s : List Offered) (i : ℕ) → came s i ≡ true → Came s (suc i)
came_record s i e =
    let w = found (λ (g : Offered). Unit {0}) s i (all_of s) e in
    let x = in_split w.one s w.among in
    record { older = x.older; one = w.one; newer = x.newer; split = x.split; numbered = w.numbered }
  where
    all_of : (r : List Offered) → All (λ (g : Offered). Unit {0}) r
    all_of [] = tt
    all_of (a ∷ r) = (tt, all_of r)

record_came : (s : List Offered) (i : ℕ) → Came s (suc i) → came s i ≡ true
unfolding some
record_came s i w =
    let f : Offered → Bool = λ (a : Offered). eqb (its_number a) (suc i) in
    ap (some f) w.split ∙ some_append f w.older (w.one ∷ w.newer)
    ∙ rw (eq-eqb (its_number w.one) (suc i) w.numbered) (or-true (some f w.older))

-- each page of a total has come
pub all_there : (s : List Offered) (t : ℕ) → all_came s t ≡ true → (i : ℕ) → i < t → came s i ≡ true
all_there s t e i l = not-false (came s i) (some_false (λ (j : ℕ). not (came s j)) t i (not-true _ e) l)

pub all_record : (s : List Offered) (t : ℕ) → all_came s t ≡ true → (k : ℕ) → 1 ≤ k → k ≤ t → Came s k
all_record s t e zero l m = absurd (omega arith)
all_record s t e (suc i) l m = came_record s i (all_there s t e i m)

pub record_all : (s : List Offered) (t : ℕ) → ((k : ℕ) → 1 ≤ k → k ≤ t → Came s k) → all_came s t ≡ true
record_all s t h = ap not (some_none (λ (j : ℕ). not (came s j)) t (λ i l. ap not (record_came s i (h (suc i) (omega arith) l))))

-- what is told where a message is whole, and where it isn't
module _ (gs : List Offered) (g : Offered) where
  whole_told : Whole gs g → answered gs g ≡ record { number = 0; pages = its_total g; next = start; message = laid (since_with gs g) }
  whole_told w = answered_told gs g ∙ rw (w.taken, record_all (since_with gs g) (its_total g) w.each)

  kept_told : refused_by g ≡ 0 → (Whole gs g → ⊥) → answered gs g ≡ record { number = 1; pages = 0; next = laid (since_with gs g); message = [] }
  kept_told z no_whole =
      true_or_false (all_came (since_with gs g) (its_total g))
      (λ e. absurd (no_whole (record { taken = z; each = all_record (since_with gs g) (its_total g) e })))
      (λ e. answered_told gs g ∙ rw (z, e))

  refused_told : (refused_by g ≡ 0 → ⊥) → answered gs g ≡ record { number = refused_by g; pages = 0; next = after start gs; message = [] }
  refused_told ne = taken_refused (after start gs) g ne

  -- a page makes its message whole or it does not
  pub data Outcome : Type 0 where
    whole_there : Whole gs g → Outcome
    not_there : refused_by g ≡ 0 → (Whole gs g → ⊥) → Outcome
    refused_page : (refused_by g ≡ 0 → ⊥) → Outcome

  pub outcome : Outcome
  outcome =
      true_or_false (eqb (refused_by g) 0)
      (λ z. true_or_false (all_came (since_with gs g) (its_total g))
      (λ e. whole_there (record { taken = eqb-true (refused_by g) 0 z; each = all_record (since_with gs g) (its_total g) e }))
      (λ e. not_there (eqb-true (refused_by g) 0 z) (λ w. false≢true (sym e ∙ record_all (since_with gs g) (its_total g) w.each))))
      (λ z. refused_page (eqb-false (refused_by g) 0 z))

pub whole_decided : WholeDecided
whole_decided gs g = go (outcome gs g)
  where
    go : Outcome gs g → Whole gs g ⊎ (Whole gs g → ⊥)
    go (whole_there w) = inl w
    go (not_there z no_whole) = inr no_whole
    go (refused_page r) = inr (λ w. r w.taken)

pub collector_holds : CollectorHolds
collector_holds = after_start

pub message_gives : MessageGives
message_gives = whole_told

pub message_keeps : MessageKeeps
message_keeps = kept_told

pub message_refuses : MessageRefuses
message_refuses = refused_told

pub message_exactly : MessageExactly
message_exactly gs g = (forth (outcome gs g), λ w. ap (λ (t : Taken). t.number) (whole_told gs g w))
  where
    number : {x : Taken} → answered gs g ≡ x → (answered gs g).number ≡ 0 → x.number ≡ 0
    number e z = sym (ap (λ (t : Taken). t.number) e) ∙ z

    forth : Outcome gs g → (answered gs g).number ≡ 0 → Whole gs g
    forth (whole_there w) z = w
    forth (not_there r w) z = absurd (omega (arith, number (kept_told gs g r w) z))
    forth (refused_page r) z = absurd (r (number (refused_told gs g r) z))

-- one page more
since_snoc : (s gs : List Offered) (g : Offered) → since_then s (gs ++ (g ∷ [])) ≡ counting (since_then s gs) g
unfolding since_then
since_snoc s [] g = refl
since_snoc s (a ∷ gs) g = since_snoc (counting s a) gs g

-- what refuses a page is not 1
refused_not_1 : (g : Offered) → refused_by g ≡ 1 → ⊥
unfolding refused_by
refused_not_1 g e =
    let ts = page_faults g.page g.received in
    let id : ℕ → ℕ = λ (k : ℕ). k in
    eqb-false (refused_by g) 1 (not-true _ (ruled_passes (λ (k : ℕ). not (eqb k 1)) id id ts 0 (λ k. refl) refl refl)) e

one_message : (r : List Offered) → Standing r → (a : Offered) (s older : List Offered) (b : Offered) (newer : List Offered) → r ≡ a ∷ s → s ≡ older ++ (b ∷ newer)
    → same_message a b ≡ true
one_message r x a s older b newer e f = go (subst Standing (e ∙ ap (λ (l : List Offered). a ∷ l) f) x)
  where
    go : Standing (a ∷ (older ++ (b ∷ newer))) → same_message a b ≡ true
    go (some_came all m) = (all_append (Of a) older (b ∷ newer) all.1).1.0.1

pub since_follows : SinceFollows
unfolding since_then
since_follows =
    record {
      start = refl;
      hand_out = λ gs g z.
          let w = (message_exactly gs g).0 z in
          since_snoc [] gs g ∙ rw (w.taken, record_all (since_with gs g) (its_total g) w.each);
      kept = λ gs g e. since_snoc [] gs g ∙ kept_counts gs g e (outcome gs g);
      refused = λ gs g r. since_snoc [] gs g ∙ rw (ne_eqb (refused_by g) 0 r);
      one_message = λ gs. one_message (since gs) (since_standing gs);
    }
  where
    number : (gs : List Offered) (g : Offered) {x : Taken} → answered gs g ≡ x → (answered gs g).number ≡ 1 → x.number ≡ 1
    number gs g e z = sym (ap (λ (t : Taken). t.number) e) ∙ z

    kept_counts : (gs : List Offered) (g : Offered) → (answered gs g).number ≡ 1 → Outcome gs g → counting (since gs) g ≡ since_with gs g
    kept_counts gs g e (whole_there w) = absurd (omega (arith, number gs g (message_gives gs g w) e))
    kept_counts gs g e (refused_page r) = absurd (refused_not_1 g (number gs g (message_refuses gs g r) e))
    kept_counts gs g e (not_there z no_whole) =
        true_or_false (all_came (since_with gs g) (its_total g))
        (λ q. absurd (no_whole (record { taken = z; each = all_record (since_with gs g) (its_total g) q })))
        (λ q. rw (z, q))
