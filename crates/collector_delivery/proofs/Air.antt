-- A text of several pages that goes out in blocks is collected and read back, in whatever order its pages come.
use Rattle.laws.proofs.Base.{◌≡◌, refl, subst, sym, ap, ◌∙◌, true, false, false≢true, cond, not, or-true, List, [], ◌∷◌, ◌++◌, append-nil, append_assoc, map, map-append, ⊎_elim, ℕ, zero, suc, ◌+◌, ◌*◌, ◌-◌, ◌/◌, ◌%◌, ◌≤◌, ◌<◌}
use Rattle.laws.proofs.Base.{arith, length, take, length-append, length-replicate, length-take-le, get_or-take, eqb, eq-eqb, ne_eqb, eqb-true, eqb-false, leb, le-leb, lt-leb}
use Rattle.laws.specs.Search.{some}
use Rattle.laws.proofs.All.{All, all_snoc, all_append, all_weaker}
use Rattle.laws.proofs.Search.{some_append}
use Rattle.laws.specs.Upto.{each}
use Rattle.laws.proofs.Upto.{some_none, some_at}
use Rattle.laws.proofs.Tests.{true_or_false, le_or_lt}
use Rattle.sizes.proofs.Received.{whole_times}
use Rattle.page.specs.Paper.{header, parameter_read}
use Rattle.page.proofs.Sameness.{read_sent}
use Rattle.block.specs.Paper as block
use Rattle.block_writer.specs.Paper.{last_used, written_blocks}
use Rattle.block_history.specs.Claims as pieces
use Rattle.block_history.proofs.History.{after_append}
use Rattle.text.specs.Paper as text
use Rattle.text_back.specs.Claims.{given_back}
use Rattle.text_back.proofs.Back.{written_length, used_bounds}
use Rattle.delivery.specs.Claims.{block_of, taken_at, text_handed, Heard}
use Rattle.delivery.proofs.Air.{started_proper, over_the_air, header_over_the_air}
use Rattle.collector.specs.Paper.{page_number, page_total, received_of, start, Taken}
use Rattle.collector_history.specs.Claims as claims
use claims.{Offered, its_number, its_total, same_message, with_new, came, all_came, counting, since_then, since, since_with, laid, answered, page_in, Whole}
use Rattle.collector_history.proofs.Laid.{Sound, found, received_in, page_in_lem}
use Rattle.collector_history.proofs.History.{unrefused, answered_told, all_record, message_gives}
use Rattle.collector_delivery.specs.Claims.{Notice, heading_sent, page_written, blocks_of, heard, Sending, on_air, Quiet, is_one, Order, numbers_sent, MessageOverTheAir}

-- what holds of each number that is one of a list
each_one : (P : ℕ → Type 0) (js : List ℕ) → ((i : ℕ) → is_one i js ≡ true → P i) → All P js
unfolding some
each_one P [] h = tt
each_one P (j ∷ js) h = (h j (rw (eq-eqb j j refl)), each_one P js (λ i e. h i (rw e (or-true (eqb j i)))))

-- a number that none of a list is
none_one : (k : ℕ) (js : List ℕ) → All (λ (j : ℕ). j ≡ k → ⊥) js → is_one k js ≡ false
unfolding some
none_one k [] h = refl
none_one k (j ∷ js) h = rw (ne_eqb j k h.0, none_one k js h.1)

-- the header of a page is in its first six octets
header_six : (q : List ℕ) → header (take 6 q) ≡ header q
unfolding header
header_six q =
    rw (
      get_or-take 6 q 0 0 (omega arith),
      get_or-take 6 q 1 0 (omega arith),
      get_or-take 6 q 2 0 (omega arith),
      get_or-take 6 q 3 0 (omega arith),
      get_or-take 6 q 4 0 (omega arith),
      get_or-take 6 q 5 0 (omega arith),
    )

-- a parameter with two halves from 1 to 15 is read as it was sent
halves_read : (a n : ℕ) → 1 ≤ a → 1 ≤ n → n ≤ 15 → (parameter_read (a * 16 + n) / 16 ≡ a) × (parameter_read (a * 16 + n) % 16 ≡ n)
halves_read a n l m few =
    let as_sent : parameter_read (a * 16 + n) ≡ a * 16 + n = read_sent (a * 16 + n) (⊎_elim (λ e. omega arith) (λ e. omega arith)) in
    rw as_sent (omega arith, omega arith)

start_good : block.proper block.start ≡ true
unfolding pieces.after
start_good = started_proper []

-- what a board is handed of pieces in two parts
heard_append : (h : block.Held) (ps qs : List (List ℕ)) → heard h (ps ++ qs) ≡ heard h ps ++ heard (pieces.after h ps) qs
unfolding heard pieces.after
heard_append h [] qs = refl
heard_append h (a ∷ ps) qs =
    true_or_false (eqb (block.step h a).number 0)
    (λ e. rw (e, heard_append (block.step h a).next ps qs))
    (λ e. rw (e, heard_append (block.step h a).next ps qs))

module _ (x : Notice) (p o u : List ℕ) (few : x.total ≤ 15) (room : length o ≡ 92) (size : length u ≡ 93) (z : (i : ℕ) → i < x.total → (page_written x p i).number ≡ 0) where
  -- a page as it is handed to the collector, whatever came before
  abbrev arrived : ℕ → Offered
  arrived i =
      record {
        page = block.filled (take (22 * last_used (page_written x p i).used) (page_written x p i).page);
        received = 22 * last_used (page_written x p i).used;
      }

  carried : (h : block.Held) (i : ℕ) → i < x.total → block.proper h ≡ true → Heard (heading_sent x i) (x.text i) p o u h
  carried h i l good = over_the_air (heading_sent x i) (x.text i) p o u h (z i l) room size good

  -- what the last used block hands out
  arrived_handed : (i : ℕ) (l : i < x.total) → text_handed (heading_sent x i) (x.text i) p o block.start
      ≡ record { number = 0; received = (arrived i).received; octets = (arrived i).page; next = block.start }
  arrived_handed i l = (carried block.start i l start_good).carried.handed

  -- the pages that a board is handed while the first blocks of a page come
  blocks_heard : (h : block.Held) (i : ℕ) → i < x.total → block.proper h ≡ true → (n : ℕ) → n ≤ 4
      → heard h (each (block_of (written_blocks (page_written x p i).page block.page (page_written x p i).used o).output) n)
      ≡ cond (leb (last_used (page_written x p i).used) n) (arrived i ∷ []) []
  unfolding each heard
  blocks_heard h i l good zero m =
      let used = (used_bounds (heading_sent x i) (x.text i) p (z i l)).0 in
      rw (lt-leb (last_used (page_written x p i).used) 0 (omega arith))
  blocks_heard h i l good (suc n) m =
      let w = page_written x p i in
      let last = last_used w.used in
      let c = (carried h i l good).carried in
      let before = blocks_heard h i l good n (omega arith) in
      heard_append h (each (block_of (written_blocks w.page block.page w.used o).output) n) _
      ∙ le_or_lt (suc (suc n)) last
      (λ below. rw (before, c.taken n below, lt-leb last n (omega arith), lt-leb last (suc n) (omega arith)))
      (λ above.
      le_or_lt last n
      (λ past. rw (before, c.ignored n past (omega arith), le-leb last n past, le-leb last (suc n) (omega arith)))
      (λ now.
      let here : n ≡ last - 1 = omega arith in
      let answer = ap (λ (k : ℕ). taken_at block.page w.page w.used o h k) here ∙ c.handed in
      rw (before, answer, lt-leb last n now, le-leb last (suc n) (omega arith))))

  arrived_reads : (i : ℕ) → i < x.total
      → text.reading (arrived i).page (arrived i).received u ≡ given_back (x.text i)
  arrived_reads i l =
      ap (λ (g : block.Given). text.reading g.octets g.received u) (sym (arrived_handed i l)) ∙ (carried block.start i l start_good).reads

  arrived_header : (i : ℕ) → i < x.total → header (arrived i).page ≡ heading_sent x i
  arrived_header i l =
      sym (header_six (arrived i).page)
      ∙ ap (λ (g : block.Given). header (take 6 g.octets)) (sym (arrived_handed i l))
      ∙ (header_over_the_air (heading_sent x i) (x.text i) p o block.start (z i l) room start_good).1

  arrived_number : (i : ℕ) → i < x.total → its_number (arrived i) ≡ suc i
  unfolding page_number
  arrived_number i l = rw (arrived_header i l) (halves_read (suc i) x.total (omega arith) (omega arith) few).0

  arrived_total : (i : ℕ) → i < x.total → its_total (arrived i) ≡ x.total
  unfolding page_total
  arrived_total i l = rw (arrived_header i l) (halves_read (suc i) x.total (omega arith) (omega arith) few).1

  arrived_sound : (i : ℕ) → i < x.total → Sound (arrived i)
  arrived_sound i l =
      let w = page_written x p i in
      let long = written_length (heading_sent x i) (x.text i) p (z i l) in
      let used = used_bounds (heading_sent x i) (x.text i) p (z i l) in
      let m = 22 * last_used w.used in
      let cut : length (take m w.page) ≡ m = length-take-le m w.page (omega (arith, used.1)) in
      record {
        size = length-append (take m w.page) _ ∙ rw (length-replicate, cut) (omega (arith, used.1));
        blocks = whole_times (last_used w.used) (omega (arith, used.0)) (omega (arith, used.1));
        numbered = rw (arrived_number i l, arrived_total i l) l;
      }

  arrived_same : (i j : ℕ) → i < x.total → j < x.total → same_message (arrived i) (arrived j) ≡ true
  unfolding same_message
  arrived_same i j l m =
      rw (
        arrived_total i l,
        arrived_total j m,
        arrived_header i l,
        arrived_header j m,
        eq-eqb x.total x.total refl,
        eq-eqb x.serial x.serial refl,
        eq-eqb x.id x.id refl,
      )

  abbrev Below : ℕ → Type 0
  Below j = j < x.total

  -- a page has come exactly where it is one of those that were sent
  came_one : (i : ℕ) (js : List ℕ) → All Below js → came (map arrived js) i ≡ is_one i js
  unfolding some
  came_one i [] h = refl
  came_one i (j ∷ js) h =
      let number = arrived_number j h.0 in
      true_or_false (eqb j i)
      (λ e. rw (number, e, eq-eqb (suc j) (suc i) (ap suc (eqb-true j i e))))
      (λ e. rw (number, e, ne_eqb (suc j) (suc i) (λ q. eqb-false j i e (omega arith))) (came_one i js h.1))

  join_arrived : (js : List ℕ) (j : ℕ) → All Below js → j < x.total → with_new (map arrived js) (arrived j) ≡ map arrived (js ++ (j ∷ []))
  unfolding with_new
  join_arrived [] j h l = refl
  join_arrived (i ∷ js) j h l = rw (arrived_same i j h.0 l) (sym (map-append arrived (i ∷ js) (j ∷ [])))

  -- one of the pages that arrive
  abbrev Arrived : Offered → Type 0
  Arrived g = (j : ℕ) × (j < x.total) × (g ≡ arrived j)

  all_those : (js : List ℕ) → All Below js → All Arrived (map arrived js)
  all_those [] h = tt
  all_those (j ∷ js) h = ((j, h.0, refl), all_those js h.1)

  all_sound : (js : List ℕ) → All Below js → All Sound (map arrived js)
  all_sound [] h = tt
  all_sound (j ∷ js) h = (arrived_sound j h.0, all_sound js h.1)

  -- each page of what is laid out is the one that arrived with its number
  laid_arrived : (js : List ℕ) → All Below js → (i : ℕ) → i < x.total → is_one i js ≡ true
      → (page_in (laid (map arrived js)) i ≡ (arrived i).page) × (received_of (laid (map arrived js)) i ≡ (arrived i).received)
  unfolding laid some
  laid_arrived [] h i l e = absurd (false≢true e)
  laid_arrived (a ∷ js) h i l e =
      let r = map arrived (a ∷ js) in
      let within : i < 15 = omega arith in
      let w = found Arrived r i (all_those (a ∷ js) h) (came_one i (a ∷ js) h ∙ e) in
      let j = w.has.0 in
      let number : suc j ≡ suc i = sym (arrived_number j w.has.1) ∙ ap its_number (sym w.has.2) ∙ w.numbered in
      let same : w.one ≡ arrived i = w.has.2 ∙ ap arrived (omega arith) in
      let whole : length w.one.page ≡ 88 = ap (λ (g : Offered). length g.page) same ∙ (arrived_sound i l).size in
      let head = (arrived_sound a h.0).size in
      let sounds = all_sound (a ∷ js) h in (
        page_in_lem (arrived a) head r sounds Arrived i within w whole ∙ ap (λ (g : Offered). g.page) same,
        received_in (arrived a) head r sounds Arrived i within w ∙ ap (λ (g : Offered). g.received) same,
      )

  -- the pages that a board is handed are those that were sent
  heard_sent : (ps : List (List ℕ)) (ts : List Sending) → Quiet x p o (pieces.after block.start ps) ts → All Below (numbers_sent ts)
      → heard (pieces.after block.start ps) (on_air x p o ts) ≡ map arrived (numbers_sent ts)
  unfolding on_air heard
  heard_sent ps [] q h = refl
  heard_sent ps (t ∷ ts) q h =
      let state = pieces.after block.start ps in
      let blocks = blocks_of x p o t.page in
      let front = t.between ++ blocks in
      let on : pieces.after state front ≡ pieces.after block.start (ps ++ front) = sym (after_append block.start ps front) in
      let there : pieces.after state t.between ≡ pieces.after block.start (ps ++ t.between) = sym (after_append block.start ps t.between) in
      let good : block.proper (pieces.after state t.between) ≡ true = rw there (started_proper (ps ++ t.between)) in
      let used = (used_bounds (heading_sent x t.page) (x.text t.page) p (z t.page h.0)).1 in
      let own : heard (pieces.after state t.between) blocks ≡ arrived t.page ∷ [] =
      blocks_heard (pieces.after state t.between) t.page h.0 good 4 (omega arith) ∙ rw (le-leb (last_used (page_written x p t.page).used) 4 (omega arith)) in
      let first : heard state front ≡ arrived t.page ∷ [] =
      heard_append state t.between blocks ∙ ap (λ (r : List Offered). r ++ heard (pieces.after state t.between) blocks) q.0 ∙ own in
      let rest : heard (pieces.after state front) (on_air x p o ts) ≡ map arrived (numbers_sent ts) =
      ap (λ (s : block.Held). heard s (on_air x p o ts)) on
      ∙ heard_sent (ps ++ front) ts (subst (λ (s : block.Held). Quiet x p o s ts) on q.1) h.1 in
      heard_append state front (on_air x p o ts) ∙ (λ i. first i ++ rest i)

  module _ (k : ℕ) (last : k < x.total) where
    -- a page of the notice other than the last
    abbrev Other : ℕ → Type 0
    Other j = (j < x.total) × (j ≡ k → ⊥)

    others_below : (js : List ℕ) → All Other js → All Below js
    others_below = all_weaker Below Other (λ j q. q.0)

    -- without the last page not all have come
    not_all : (js : List ℕ) → All Other js → all_came (map arrived js) x.total ≡ false
    not_all js h =
        ap not
        (some_at (λ (i : ℕ). not (came (map arrived js) i)) x.total k last
        (ap not (came_one k js (others_below js h) ∙ none_one k js (all_weaker (λ (j : ℕ). j ≡ k → ⊥) Other (λ j q. q.1) js h))))

    others_kept : (js : List ℕ) (j : ℕ) → All Other js → Other j → counting (map arrived js) (arrived j) ≡ map arrived (js ++ (j ∷ []))
    others_kept js j h q =
        rw (
          unrefused (arrived j) (arrived_sound j q.0),
          join_arrived js j (others_below js h) q.0,
          arrived_total j q.0,
          not_all (js ++ (j ∷ [])) (all_snoc Other js j h q),
        )

    since_others : (js is : List ℕ) → All Other js → All Other is → since_then (map arrived js) (map arrived is) ≡ map arrived (js ++ is)
    unfolding since_then
    since_others js [] h g = ap (map arrived) (sym (append-nil js))
    since_others js (j ∷ is) h g =
        ap (λ (s : List Offered). since_then s (map arrived is)) (others_kept js j h g.0)
        ∙ since_others (js ++ (j ∷ [])) is (all_snoc Other js j h g.0) g.1
        ∙ ap (map arrived) (append_assoc js (j ∷ []) is)

    since_heard : (is : List ℕ) → All Other is → since (map arrived is) ≡ map arrived is
    since_heard is h = since_others [] is tt h

    -- a page before the last one is kept
    other_waits : (is : List ℕ) (j : ℕ) → All Other is → Other j → (answered (map arrived is) (arrived j)).number ≡ 1
    other_waits is j h q =
        ap (λ (t : Taken). t.number) (answered_told (map arrived is) (arrived j))
        ∙ rw (
          since_heard is h,
          unrefused (arrived j) (arrived_sound j q.0),
          join_arrived is j (others_below is h) q.0,
          arrived_total j q.0,
          not_all (is ++ (j ∷ [])) (all_snoc Other is j h q),
        )

    -- with the last page all have come
    module _ (is : List ℕ) (order : Order x.total is k) where
      others : All Other is
      others = each_one Other is (λ i e. (order.others i).0 e)

      all_below : All Below (is ++ (k ∷ []))
      all_below = all_snoc Below is k (others_below is others) last

      all_ones : (i : ℕ) → i < x.total → is_one i (is ++ (k ∷ [])) ≡ true
      unfolding some
      all_ones i l =
          some_append (λ (j : ℕ). eqb j i) is (k ∷ [])
          ∙ true_or_false (eqb k i)
          (λ e. rw e (or-true (is_one i is)))
          (λ e. rw ((order.others i).1 (l, λ q. eqb-false k i e (sym q))))

      all_arrived : all_came (map arrived (is ++ (k ∷ []))) x.total ≡ true
      all_arrived =
          ap not
          (some_none (λ (i : ℕ). not (came (map arrived (is ++ (k ∷ []))) i)) x.total
          (λ i l. ap not (came_one i (is ++ (k ∷ [])) all_below ∙ all_ones i l)))

      with_last : since_with (map arrived is) (arrived k) ≡ map arrived (is ++ (k ∷ []))
      with_last = ap (λ (s : List Offered). with_new s (arrived k)) (since_heard is others) ∙ join_arrived is k (others_below is others) last

      whole : Whole (map arrived is) (arrived k)
      whole =
          record {
            taken = unrefused (arrived k) (arrived_sound k last);
            each = all_record (since_with (map arrived is) (arrived k)) (its_total (arrived k)) (rw (with_last, arrived_total k last) all_arrived);
          }

      given_out : answered (map arrived is) (arrived k) ≡ record { number = 0; pages = its_total (arrived k); next = start; message = laid (map arrived (is ++ (k ∷ []))) }
      given_out = message_gives (map arrived is) (arrived k) whole ∙ rw with_last

      -- and each page that is handed out is read as it was written
      reads_back : (i : ℕ) → i < x.total
          → text.reading (page_in (laid (map arrived (is ++ (k ∷ [])))) i) (received_of (laid (map arrived (is ++ (k ∷ [])))) i) u
          ≡ given_back (x.text i)
      reads_back i l =
          let e = laid_arrived (is ++ (k ∷ [])) all_below i l (all_ones i l) in
          rw (e.0, e.1) (arrived_reads i l)

-- the quiet of a beginning
quiet_before : (x : Notice) (p o : List ℕ) (h : block.Held) (ts : List Sending) (t : Sending) → Quiet x p o h (ts ++ (t ∷ [])) → Quiet x p o h ts
quiet_before x p o h [] t q = tt
quiet_before x p o h (s ∷ ts) t q = (q.0, quiet_before x p o (pieces.after h (s.between ++ blocks_of x p o s.page)) ts t q.1)

-- a list of pages that is split comes from one of numbers that is
record Parts (f : ℕ → Offered) (is : List ℕ) (older : List Offered) (g : Offered) : Type 0 where
  js : List ℕ
  j : ℕ
  rest : List ℕ
  split : is ≡ js ++ (j ∷ rest)
  before : map f js ≡ older
  here : f j ≡ g

parts : (f : ℕ → Offered) (is : List ℕ) (older : List Offered) (g : Offered) (newer : List Offered) → map f is ≡ older ++ (g ∷ newer) → Parts f is older g
parts f [] [] g newer e = let bad : ◌≡◌ {A = ℕ} 0 1 = cc in absurd (omega arith)
parts f [] (a ∷ older) g newer e = let bad : ◌≡◌ {A = ℕ} 0 1 = cc in absurd (omega arith)
parts f (i ∷ is) [] g newer e = record { js = []; j = i; rest = is; split = refl; before = refl; here = cc }
parts f (i ∷ is) (a ∷ older) g newer e =
    let w = parts f is older g newer (cc) in
    let head : f i ≡ a = cc in
    record {
      js = i ∷ w.js;
      j = w.j;
      rest = w.rest;
      split = ap (λ (l : List ℕ). i ∷ l) w.split;
      before = (λ k. head k ∷ w.before k);
      here = w.here;
    }

pub message_over_the_air : MessageOverTheAir
message_over_the_air x p o u ps ts t few order quiet z room size =
    let state = pieces.after block.start ps in
    let k = t.page in
    let is = numbers_sent ts in
    let last = order.last in
    let g = arrived x p o u few room size z in
    let all = others x p o u few room size z k last is order in
    let below = others_below x p o u few room size z k last is all in
    let before : heard state (on_air x p o ts) ≡ map g is = heard_sent x p o u few room size z ps ts (quiet_before x p o state ts t quiet) below in
    let pages : numbers_sent (ts ++ (t ∷ [])) ≡ is ++ (k ∷ []) = map-append (λ (s : Sending). s.page) ts (t ∷ []) in
    let whole : heard state (on_air x p o (ts ++ (t ∷ []))) ≡ map g (is ++ (k ∷ [])) =
    heard_sent x p o u few room size z ps (ts ++ (t ∷ [])) quiet (rw pages (all_below x p o u few room size z k last is order)) ∙ ap (map g) pages in
    let answer : answered (heard state (on_air x p o ts)) (g k) ≡ record { number = 0; pages = its_total (g k); next = start; message = laid (map g (is ++ (k ∷ []))) } =
    ap (λ (r : List Offered). answered r (g k)) before ∙ given_out x p o u few room size z k last is order in
    record {
      one = g k;
      completes = whole ∙ map-append g is (k ∷ []) ∙ ap (λ (r : List Offered). r ++ (g k ∷ [])) (sym before);
      waits = λ older a newer e.
          let w = parts g is older a newer (sym before ∙ e) in
          let both = all_append _ w.js (w.j ∷ w.rest) (rw w.split at all) in
          (λ i. (answered (sym w.before i) (sym w.here i)).number)
          ∙ other_waits x p o u few room size z k last w.js w.j both.0 both.1.0;
      done = ap (λ (r : Taken). r.number) answer;
      pages = ap (λ (r : Taken). r.pages) answer ∙ arrived_total x p o u few room size z k last;
      next = ap (λ (r : Taken). r.next) answer;
      reads = λ i l.
          ap (λ (r : Taken). text.reading (page_in r.message i) (received_of r.message i) u) answer
          ∙ reads_back x p o u few room size z k last is order i l;
    }
