-- Messages over C calls: each collector in lent memory is the one that the pages given leave, and what is handed out is one message's.
use Rattle.laws.proofs.Base.{◌≡◌, refl, subst, sym, ap, ◌∙◌, Bool, true, List, [], ◌∷◌, ◌++◌, ◌⊎◌, inl, inr, ⊎_elim, ℕ, ◌*◌, ◌/◌, ◌%◌, ◌≤◌, ◌<◌, zero-add, add-zero}
use Rattle.laws.proofs.Base.{arith, length, eqb, eq-eqb, ne_eqb, eqb-true, eqb-false, leb, leb-true, ltb, ltb-true, not, not-true, ◌&&◌, ◌↔◌}
use Rattle.laws.proofs.Tests.{true_or_false, both}
use Rattle.laws.proofs.All.{All}
use Rattle.laws.specs.Ruled.{ruled}
use Rattle.laws.proofs.Ruled.{ruled_passes}
use Rattle.calls.proofs.Packed.{apart}
use Rattle.page.specs.Paper.{header}
use Rattle.collector.specs.Paper.{page_total, total, proper, start, goes_on, with_page, is_whole, Taken, settled, page_faults, untaken, taken, Left, moved, refused_left, collected, start_call, CollectLeft, in_call, collect_call}
use Rattle.collector.proofs.Places.{total_most, start_length}
use Rattle.collector_history.specs.Claims as claims
use claims.{Offered, offer, its_total, refused_by, same_message, with_new, came, all_came, counting, since_then, since, since_with, pages_from, laid, answered, Whole}
use claims.{Call, on, off, after_calls, counted, call_after, UnpackedCollect, LentMessages, OfMessage, Unmixed, NeverMixes}
use Rattle.collector_history.proofs as own
use own.Laid.{Sound, In, in_split, in_append, in_before, in_behind, found, laid_with, laid_length, received_in, page_in_lem, header_front}
use own.History.{Of, Together, together, Standing, none, some_came, all_sound, join, sound, standing_proper, since_standing, after_start, taken_next, counting_standing, all_there, record_all}
use own.History.{Outcome, whole_there, not_there, refused_page, outcome, whole_decided, message_gives, message_keeps, message_refuses}

laid_1340 : (s : List Offered) → Standing s → length (laid s) ≡ 1340
unfolding laid
laid_1340 [] none = start_length
laid_1340 (a ∷ s) (some_came all m) = laid_length a all.0.0.size (a ∷ s) (all_sound a (a ∷ s) all)

-- a call with the right lengths does what is done by value
right : (c p : List ℕ) (n : ℕ) (o : List ℕ) → length c ≡ 1340 → proper c ≡ true → length o ≡ 1340 → collect_call c p n o ≡ in_call (moved (taken c p n) o)
unfolding collected
right c p n o long good size = simp (eq-eqb _ _ long, good, eq-eqb _ _ size)

refused_15 : (c p : List ℕ) (n : ℕ) (o : List ℕ) → length c ≡ 1340 → proper c ≡ true → (length o ≡ 1340 → ⊥) → collect_call c p n o ≡ record { returned = 15; collector = c; output = o }
unfolding collected
refused_15 c p n o long good ne = simp (eq-eqb _ _ long, good, ne_eqb _ _ ne)

refused_8 : (c p : List ℕ) (n : ℕ) (o : List ℕ) → (length c ≡ 1340 → ⊥) → collect_call c p n o ≡ record { returned = 8; collector = c; output = o }
unfolding collected
refused_8 c p n o ne = simp (ne_eqb _ _ ne)

collector_of : {x y : CollectLeft} → x ≡ y → x.collector ≡ y.collector
collector_of e = ap (λ (l : CollectLeft). l.collector) e

returned_of : {x y : CollectLeft} → x ≡ y → x.returned ≡ y.returned
returned_of e = ap (λ (l : CollectLeft). l.returned) e

-- every number that is given has eight bits
taken_small : (c p : List ℕ) (n : ℕ) → ltb (taken c p n).number 256 ≡ true
unfolding taken
taken_small c p n =
    let x = with_page (goes_on c p) p n in
    ruled_passes (λ (k : ℕ). ltb k 256) (λ (t : Taken). t.number) (untaken c) (page_faults p n) (settled x) (λ k. refl) refl
    (true_or_false (is_whole x) (λ e. rw e) (λ e. rw e))

collected_small : (c p : List ℕ) (n : ℕ) (o : List ℕ) → ltb (collected c p n o).number 256 ≡ true
unfolding collected
collected_small c p n o =
    let small : ℕ → Bool = λ (k : ℕ). ltb k 256 in
    let number : Left → ℕ = λ (l : Left). l.number in
    let last = moved (taken c p n) o in
    let sized = ruled (refused_left c o) ((not (eqb (length o) 1340), 15) ∷ []) last in
    let held = ruled (refused_left start o) ((not (proper c), 8) ∷ []) sized in
    ruled_passes small number (refused_left c o) ((not (eqb (length c) 1340), 8) ∷ []) held (λ k. refl) refl
    (ruled_passes small number (refused_left start o) ((not (proper c), 8) ∷ []) sized (λ k. refl) refl
    (ruled_passes small number (refused_left c o) ((not (eqb (length o) 1340), 15) ∷ []) last (λ k. refl) refl (taken_small c p n)))

pub unpacked_collect : UnpackedCollect
unpacked_collect c p n o = apart (collected c p n o).number (collected c p n o).pages (ltb-true _ 256 (collected_small c p n o))

-- lent memory follows the pages that are given
lent_after : (s : List Offered) (xs : List Call) → Standing s → after_calls (laid s) xs ≡ laid (since_then s (counted xs))
unfolding after_calls counted since_then
lent_after s [] x = refl
lent_after s (off m w p n o ∷ xs) x = lent_after s xs x
lent_after s (on p n o ∷ xs) x =
    let long = laid_1340 s x in
    let good = standing_proper s x in
    true_or_false (eqb (length o) 1340)
    (λ e.
    let next = collector_of (right (laid s) p n o long good (eqb-true (length o) 1340 e)) ∙ taken_next s (offer p n) x in
    rw (next, e) (lent_after (counting s (offer p n)) xs (counting_standing s (offer p n) x)))
    (λ e. rw (collector_of (refused_15 (laid s) p n o long good (eqb-false (length o) 1340 e)), e) (lent_after s xs x))

started : (m : List ℕ) → length m ≡ 1340 → (start_call m).collector ≡ laid []
unfolding start_call laid
started m long = rw (eq-eqb (length m) 1340 long)

memory_after : (m : List ℕ) (xs : List Call) → length m ≡ 1340 → after_calls (start_call m).collector xs ≡ laid (since (counted xs))
memory_after m xs long = rw (started m long) (lent_after [] xs none)

module _ (m : List ℕ) (xs : List Call) (p : List ℕ) (n : ℕ) (o : List ℕ) (long : length m ≡ 1340) where
  abbrev held_now : List ℕ
  held_now = laid (since (counted xs))

  long_now : length held_now ≡ 1340
  long_now = laid_1340 (since (counted xs)) (since_standing (counted xs))

  good_now : proper held_now ≡ true
  good_now = standing_proper (since (counted xs)) (since_standing (counted xs))

  -- a call is answered as the page is after those that were given
  called : length o ≡ 1340 → call_after m xs p n o ≡ in_call (moved (answered (counted xs) (offer p n)) o)
  called size = rw (memory_after m xs long, after_start (counted xs)) (right held_now p n o long_now good_now size)

  called_15 : (length o ≡ 1340 → ⊥) → call_after m xs p n o ≡ record { returned = 15; collector = after_calls (start_call m).collector xs; output = o }
  called_15 ne = rw (memory_after m xs long) (refused_15 held_now p n o long_now good_now ne)

  module _ (size : length o ≡ 1340) where
    told_as_lem : {t : Taken} → answered (counted xs) (offer p n) ≡ t → call_after m xs p n o ≡ in_call (moved t o)
    told_as_lem e = called size ∙ ap (λ (t : Taken). in_call (moved t o)) e

    gives : Whole (counted xs) (offer p n)
        → call_after m xs p n o ≡ record { returned = 256 * page_total p; collector = start; output = laid (since_with (counted xs) (offer p n)) }
    gives w =
        told_as_lem (message_gives (counted xs) (offer p n) w)
        ∙ rw (zero-add (256 * page_total p))

    keeps : refused_by (offer p n) ≡ 0 → (Whole (counted xs) (offer p n) → ⊥)
        → call_after m xs p n o ≡ record { returned = 1; collector = laid (since_with (counted xs) (offer p n)); output = o }
    keeps z w = told_as_lem (message_keeps (counted xs) (offer p n) z w)

    refuses : (refused_by (offer p n) ≡ 0 → ⊥)
        → call_after m xs p n o ≡ record { returned = refused_by (offer p n); collector = after_calls (start_call m).collector xs; output = o }
    refuses ne = told_as_lem (message_refuses (counted xs) (offer p n) ne) ∙ rw (memory_after m xs long, after_start (counted xs), add-zero (refused_by (offer p n)), ne_eqb (refused_by (offer p n)) 0 ne)

-- what refuses a page is at most 50, and not 8
refused_most : (g : Offered) → (refused_by g ≤ 50) × (refused_by g ≡ 8 → ⊥)
unfolding refused_by
refused_most g =
    let id : ℕ → ℕ = λ (k : ℕ). k in
    let e = ruled_passes (λ (k : ℕ). leb k 50 && not (eqb k 8)) id id (page_faults g.page g.received) 0 (λ k. refl) refl refl in
    let b = both (leb (refused_by g) 50) (not (eqb (refused_by g) 8)) e in
    (leb-true (refused_by g) 50 b.0, eqb-false (refused_by g) 8 (not-true (eqb (refused_by g) 8) b.1))

module _ (m : List ℕ) (xs : List Call) (p : List ℕ) (n : ℕ) (o : List ℕ) (long : length m ≡ 1340) where
  abbrev returned : ℕ
  returned = (call_after m xs p n o).returned

  exactly : length o ≡ 1340 → (returned % 256 ≡ 0) ↔ Whole (counted xs) (offer p n)
  exactly size = (forth (outcome (counted xs) (offer p n)), λ w. rw (returned_of (gives m xs p n o long size w)) (omega arith))
    where
      forth : Outcome (counted xs) (offer p n) → returned % 256 ≡ 0 → Whole (counted xs) (offer p n)
      forth (whole_there w) z = w
      forth (not_there r w) z = absurd (omega (arith, rw (returned_of (keeps m xs p n o long size r w)) at z))
      forth (refused_page r) z =
          let few = (refused_most (offer p n)).0 in
          absurd (r (omega (arith, rw (returned_of (refuses m xs p n o long size r)) at z)))

  never_8 : returned % 256 ≡ 8 → ⊥
  never_8 z =
      true_or_false (eqb (length o) 1340)
      (λ e. go (eqb-true (length o) 1340 e) (outcome (counted xs) (offer p n)))
      (λ e. omega (arith, rw (returned_of (called_15 m xs p n o long (eqb-false (length o) 1340 e))) at z))
    where
      go : length o ≡ 1340 → Outcome (counted xs) (offer p n) → ⊥
      go size (whole_there w) = omega (arith, rw (returned_of (gives m xs p n o long size w)) at z)
      go size (not_there r w) = omega (arith, rw (returned_of (keeps m xs p n o long size r w)) at z)
      go size (refused_page r) =
          let most = refused_most (offer p n) in
          most.1 (omega (arith, most.0, rw (returned_of (refuses m xs p n o long size r)) at z))

pub lent_messages : LentMessages
lent_messages =
    record {
      exactly = λ m xs p n o long size. exactly m xs p n o long size;
      gives = λ m xs p n o long size. gives m xs p n o long size;
      keeps = λ m xs p n o long size. keeps m xs p n o long size;
      refuses = λ m xs p n o long size. refuses m xs p n o long size;
      decided = λ xs p n. whole_decided (counted xs) (offer p n);
      proper = λ m xs p n o long. never_8 m xs p n o long;
      uncounted_15 = λ m xs p n o long. called_15 m xs p n o long;
      uncounted_8 = refused_8;
    }

-- memory that is not 1,340 octets is never started, and no call changes it
module _ (m : List ℕ) (short : length m ≡ 1340 → ⊥) where
  not_started : (start_call m).collector ≡ m
  unfolding start_call
  not_started = rw (ne_eqb (length m) 1340 short)

  calls_leave : (xs : List Call) → after_calls m xs ≡ m
  unfolding after_calls
  calls_leave [] = refl
  calls_leave (off k w p n o ∷ xs) = calls_leave xs
  calls_leave (on p n o ∷ xs) = rw (collector_of (refused_8 m p n o short)) (calls_leave xs)

-- a call that hands out has the right lengths
right_lengths : (m : List ℕ) (xs : List Call) (p : List ℕ) (n : ℕ) (o : List ℕ) → (call_after m xs p n o).returned % 256 ≡ 0 → (length m ≡ 1340) × (length o ≡ 1340)
right_lengths m xs p n o z =
    true_or_false (eqb (length m) 1340)
    (λ em. true_or_false (eqb (length o) 1340)
    (λ eo. (eqb-true (length m) 1340 em, eqb-true (length o) 1340 eo))
    (λ eo. absurd (omega (arith, rw (returned_of (called_15 m xs p n o (eqb-true (length m) 1340 em) (eqb-false (length o) 1340 eo))) at z))))
    (λ em.
    let short = eqb-false (length m) 1340 em in
    let same : after_calls (start_call m).collector xs ≡ m = rw (not_started m short) (calls_leave m short xs) in
    absurd (omega (arith, rw (same, returned_of (refused_8 m p n o short)) at z)))

-- pages that count are pages that were given
joined_in : (a : Offered) (s : List Offered) (g : Offered) → In a (with_new s g) → In a s ⊎ In a (g ∷ [])
unfolding with_new
joined_in a [] g h = inr h
joined_in a (b ∷ s) g h =
    true_or_false (same_message b g) (λ e. in_append a (b ∷ s) (g ∷ []) (rw e at h)) (λ e. inr (rw e at h))

counting_in : (a : Offered) (s : List Offered) (g : Offered) → In a (counting s g) → In a s ⊎ In a (g ∷ [])
counting_in a s g h =
    true_or_false (eqb (refused_by g) 0)
    (λ e. true_or_false (all_came (with_new s g) (its_total g))
    (λ w. absurd (rw (e, w) at h))
    (λ w. joined_in a s g (rw (e, w) at h)))
    (λ e. inl (rw e at h))

since_in : (a : Offered) (s gs : List Offered) → In a (since_then s gs) → In a s ⊎ In a gs
unfolding since_then
since_in a s [] h = inl h
since_in a s (g ∷ gs) h =
    ⊎_elim
    (λ l. ⊎_elim inl (λ r. inr (in_before a (g ∷ []) gs r)) (counting_in a s g l))
    (λ r. inr (inr r))
    (since_in a (counting s g) gs h)

with_in : (a : Offered) (gs : List Offered) (g : Offered) → In a (since_with gs g) → In a (gs ++ (g ∷ []))
with_in a gs g h =
    ⊎_elim
    (λ l. ⊎_elim absurd (λ r. in_before a gs (g ∷ []) r) (since_in a [] gs l))
    (λ r. in_behind a gs (g ∷ []) r)
    (joined_in a (since gs) g h)

same_facts : (a b : Offered) → same_message a b ≡ true
    → (its_total a ≡ its_total b) × ((header a.page).serial ≡ (header b.page).serial) × ((header a.page).id ≡ (header b.page).id)
unfolding same_message
same_facts a b e =
    let x = both (eqb (its_total a) (its_total b)) _ e in
    let y = both (eqb (header a.page).serial (header b.page).serial) _ x.1 in
    (eqb-true _ _ x.0, eqb-true _ _ y.0, eqb-true _ _ y.1)

-- a page that is laid out with others is of their message
module _ (a : Offered) (s : List Offered) (all : All (Of a) (a ∷ s)) where
  abbrev pages : List Offered
  pages = a ∷ s

  abbrev out : List ℕ
  out = laid_with a pages

  size : length a.page ≡ 88
  size = all.0.0.size

  sounds : All Sound pages
  sounds = all_sound a pages all

  laid_of : (gs : List Offered) → ((b : Offered) → In b pages → In b gs) → (i : ℕ) → i < its_total a → came pages i ≡ true → OfMessage gs out i
  laid_of gs from i l e =
      let few : i < 15 = omega (arith, total_most a.page) in
      let w = found (Of a) pages i all e in
      let b = w.one in
      let page = page_in_lem a size pages sounds (Of a) i few w w.has.0.size in
      let received = received_in a size pages sounds (Of a) i few w in
      let tells = header_front a.page (pages_from pages 0 15) size in
      let same = same_facts a b w.has.1 in
      let x = in_split b gs (from b w.among) in
      record {
        serial = rw (page, tells.0) (sym same.1);
        id = rw (page, tells.1) (sym same.2);
        totals = rw page (sym same.0);
        numbered = rw page w.numbered;
        older = x.older;
        newer = x.newer;
        came = rw (page, received) x.split;
      }

together_of : (gs r : List Offered) (g : Offered) → Together r g → ((b : Offered) → In b r → In b gs) → all_came r (its_total g) ≡ true
    → (total (laid r) ≡ its_total g) × ((i : ℕ) → i < its_total g → OfMessage gs (laid r) i)
unfolding laid
together_of gs [] g x3 from there = elim x3 [ ]
together_of gs (a ∷ s) g (together all e) from there = (
  e,
  λ i l. laid_of a s all gs from i (omega arith) (all_there (a ∷ s) (its_total g) there i l),
)

pub never_mixes : NeverMixes
never_mixes m xs p n o z =
    let lengths = right_lengths m xs p n o z in
    let gs = counted xs in
    let g = offer p n in
    let w = (exactly m xs p n o lengths.0 lengths.1).0 z in
    let e = gives m xs p n o lengths.0 lengths.1 w in
    let r = since_with gs g in
    let t = together_of (gs ++ (g ∷ [])) r g (join (since gs) g (since_standing gs) (sound g w.taken)) (λ b h. with_in b gs g h) (record_all r (its_total g) w.each) in
    let pages : 256 * page_total p / 256 ≡ page_total p = omega arith in
    subst (Unmixed (gs ++ (g ∷ []))) (sym e) (record { pages = t.0 ∙ sym pages; each = λ i l. t.1 i (rw pages at l) })
