-- A board that obeys an accepted schedule: what it reads, what it doesn't, and what it ends a period with.
use Rattle.laws.proofs.Base.{◌≡◌, refl, sym, ap, ◌∙◌, subst, Bool, true, false, false≢true, not, and-false, or-true, List, ⊎_elim, ℕ, zero, suc, ◌-◌}
use Rattle.laws.proofs.Base.{◌%◌, ◌≤◌, ◌<◌, eq-or-lt_of_le, le_of_suc-le-suc, not-suc-le-zero, arith, eqb, eqb-true, eqb-false, eq-eqb, le-leb, not-true}
use Rattle.laws.specs.Search.{some}
use Rattle.laws.proofs.Search.{some_implies}
use Rattle.laws.proofs.Tests.{true_or_false, both}
use Rattle.laws.proofs.Upto.{below_suc}
use Rattle.page.specs.Paper.{Name, same_page}
use Rattle.page.proofs.Sameness.{Same, same_reflexive, same_symmetric, same_transitive}
use Rattle.schedule.specs.Paper.{Told, first, again, optional, advised, is_first, tells, end, read, shown}
use Rattle.schedule.proofs.Repeats.{false_other}
use Rattle.plan.specs.Paper.{Plan, entry_at}
use Rattle.plan_slots.specs.Paper.{page_at, lowest_at, low15_at}
use Rattle.plan.proofs.GoodPlan.{kind_few}
use Rattle.plan_slots.proofs.Lowest.{leading}
use Rattle.checker_truth.specs.Claims.{TrueAt, Truthful}
use Rattle.checker_truth.proofs.Accepted.{accepted_exactly}
use Rattle.board_held.specs.Paper.{is_held, enter, tells_of, entered_under, entry_for}
use Rattle.board_held.proofs.Cases.{entered_told}
use Rattle.board_held.proofs.Sets.{Slot, held_none, held_entered, held_others, held_kept}
use Rattle.board_held.proofs.Telling.{is_read}
use Rattle.board.specs.Paper.{Wanted, is_wanted, Decided, first_matches, reads_for, decide}
use Rattle.board.proofs.Cases.{decide_reads, reads_told}
use Rattle.board.proofs.Matching.{low15_wanted, wanted_matches}
use Rattle.board_obeyed.specs.Claims.{obeyed, Obeys, WantedPage, WantedExactly, Wakes, Why, marked, led, repeated, WakesOnly, Board, fresh, Holds, Has, entering}
use Rattle.board_obeyed.specs.Claims.{passing, board_after, LowestSlot, HeldTruly, names_page, calls_for, PeriodWithLosses, StaysTrue, ReadsOnce, none_lost, Period}

-- what is proved of pages that match in 15 bits holds of those whose identifier is wanted, all 16 bits of it
pub wanted_exactly : (c : Plan) (w : Wanted) (i : ℕ) → WantedExactly c w i → WantedPage c w i
wanted_exactly c w i q = record { below = q.below; page = q.page; wanted = wanted_matches w (entry_at c i).id q.wanted }

-- a board that has a page has every page that is the same
has_same : (b : Board) (x y : Name) → Same x y → Has b x → Has b y
has_same b x y s = some_implies (same_page x) (same_page y) (λ z q. same_transitive y x z (same_symmetric x y s) q) b.got

-- the empty set is true of every board
pub none_held_truly : (c : Plan) (b : Board) → b.held ≡ 0 → HeldTruly c b
none_held_truly c b z i o q = absurd (false≢true (sym (held_none (suc i)) ∙ ap (λ (h : ℕ). is_held h (suc i)) (sym z) ∙ q))

-- a description that names a page is one that a board may read for
names_calls : (d : Told) → names_page d ≡ true → calls_for d ≡ true
names_calls (first x) e = refl
names_calls (again n) e = refl
names_calls optional e = absurd (false≢true e)
names_calls advised e = refl

-- the lowest slot with the page of slot i
leads : (c : Plan) (i : ℕ) → i < c.count → (entry_at c i).kind ≡ 2 → LowestSlot c (lowest_at c i - 1)
leads c i l k =
    let a = leading c i l k in
    record { below = omega (arith, a.some, a.reaches); page = a.page; own = a.own ∙ (omega (arith, a.some)) }

module _ (c p : Plan) (m : List ℕ) (received : ℕ) (w : Wanted) (o : Obeys c p m received w) where
  t : Truthful c p m received
  t = (accepted_exactly c p m received).accepted_truthful o.accepted

  -- what a truthful message tells of a slot, with the slots of the plan that can be told so
  data ToldAs (i : ℕ) : Type 0 where
    as_optional : tells m i ≡ optional → ToldAs i
    as_advised : tells m i ≡ advised → ToldAs i
    as_first : tells m i ≡ first (low15_at c i) → (entry_at c i).kind ≡ 2 → lowest_at c i ≡ suc i → ToldAs i
    as_repeat : tells m i ≡ again (lowest_at c i) → (entry_at c i).kind ≡ 2 → lowest_at c i ≤ i → ToldAs i

  told_as_lem : (i : ℕ) → i < c.count → ToldAs i
  told_as_lem i l =
      ⊎_elim page
      (λ b.
      ⊎_elim (λ k. as_advised (s.planned_advised k))
      (λ u. let k : (entry_at c i).kind ≡ 0 = omega arith in as_optional (s.planned_optional k))
      (below_suc b))
      (below_suc (kind_few c t.current_good i l))
    where
      s : TrueAt c p i (shown m i)
      s = t.slots i l

      page : (entry_at c i).kind ≡ 2 → ToldAs i
      page k =
          ⊎_elim (λ own. ⊎_elim (λ e. as_first e k own) as_advised (s.lowest_slot_lem k own))
          (λ later. ⊎_elim (λ e. as_repeat e k (le_of_suc-le-suc later)) (⊎_elim as_advised as_optional) (s.later_slot k later))
          (eq-or-lt_of_le (leading c i l k).reaches)

  -- the schedule tells of every slot of the plan
  tells_slot : (i : ℕ) → i < c.count → tells_of (obeyed m received) (suc i) ≡ true
  unfolding tells_of
  tells_slot i l =
      let some : 1 ≤ suc i = omega arith in
      let near : suc i ≤ end m = omega (arith, t.ends) in
      simp (eq-eqb (read m received).number 0 t.reads, le-leb 1 (suc i) some, le-leb (suc i) (end m) near)

  slot_number_lem : (i : ℕ) → i < c.count → Slot (suc i)
  slot_number_lem i l = record { some = omega arith; low = omega (arith, t.ends, (is_read m received t.reads).last) }

  own : (i : ℕ) → suc i - 1 ≡ i
  own i = omega arith

  -- the slot that a page got in slot i is entered under, by what is told of slot i
  abbrev under : ℕ → ℕ
  under i = entered_under (obeyed m received) (suc i)

  entered_for : (i : ℕ) → i < c.count → under i ≡ entry_for (suc i) (tells m i)
  entered_for i l = entered_told (obeyed m received) (suc i) (tells_slot i l) ∙ ap (λ (j : ℕ). entry_for (suc i) (tells m j)) (own i)

  -- a repeat names a first transmission with the low 15 bits of its page
  repeat_first : (i : ℕ) → i < c.count → (entry_at c i).kind ≡ 2 → tells m i ≡ again (lowest_at c i) → tells m (lowest_at c i - 1) ≡ first (low15_at c i)
  repeat_first i l k e =
      let a = leads c i l k in
      let near : i < end m = omega (arith, t.ends) in
      ⊎_elim
      (λ f. f ∙ ap (λ (x : ℕ). first (x % 0x8000)) (leading c i l k).id)
      (λ s. absurd (false≢true (sym ((is_read m received t.reads).repeats i near) ∙ false_other (tells m) i (lowest_at c i) e (ap is_first s))))
      ((t.slots (lowest_at c i - 1) a.below).lowest_slot_lem a.page a.own)

  -- a slot is read by what is told of it
  abbrev for : ℕ → Told → Bool
  for h d = reads_for (tells m) w h d

  decided : (h i : ℕ) → i < c.count → (b : Bool) → for h (tells m i) ≡ b → decide (obeyed m received) (suc i) w h ≡ record { number = 0; read = b }
  decided h i l b e =
      let r = reads_told (obeyed m received) (suc i) w h (tells_slot i l) ∙ ap (λ (j : ℕ). for h (tells m j)) (own i) ∙ e in
      decide_reads (obeyed m received) (suc i) w h (slot_number_lem i l) o.few ∙ (λ j. record { number = 0; read = r j })

  -- a page that matches is read for where it is told as first
  first_read : (h i : ℕ) → WantedPage c w i → tells m i ≡ first (low15_at c i) → for h (tells m i) ≡ true
  first_read h i q f = ap (for h) f ∙ low15_wanted w (entry_at c i).id ∙ q.wanted

  pub wakes : Wakes c m received w
  wakes h i q own =
      decided h i q.below true
      (⊎_elim (first_read h i q) (ap (for h)) ((t.slots i q.below).lowest_slot_lem q.page own))

  pub wakes_only : WakesOnly c m received w
  wakes_only h i l r = go (told_as_lem i l)
    where
      by : (d : Told) → tells m i ≡ d → for h d ≡ true
      by d e = sym (ap (for h) e) ∙ ap (λ (x : Decided). x.read) (sym (decided h i l (for h (tells m i)) refl)) ∙ r

      go : ToldAs i → Why c m w h i
      go (as_optional e) = absurd (false≢true (by optional e))
      go (as_advised e) = marked e
      go (as_first e k lowest) = led e k lowest (sym (low15_wanted w (entry_at c i).id) ∙ by (first (low15_at c i)) e)
      go (as_repeat e k later) =
          let q = both (first_matches w (tells m (lowest_at c i - 1))) (not (is_held h (lowest_at c i))) (by (again (lowest_at c i)) e) in
          let f = repeat_first i l k e in
          let wanted : is_wanted w (entry_at c i).id ≡ true = sym (low15_wanted w (entry_at c i).id) ∙ sym (ap (first_matches w) f) ∙ q.0 in
          repeated e k later f wanted (not-true (is_held h (lowest_at c i)) q.1)

  -- a page of a slot told as first or repeat is entered under its lowest slot
  entered_lowest : (i : ℕ) → i < c.count → names_page (tells m i) ≡ true → under i ≡ lowest_at c i
  entered_lowest i l e = entered_for i l ∙ go (told_as_lem i l)
    where
      go : ToldAs i → entry_for (suc i) (tells m i) ≡ lowest_at c i
      go (as_optional q) = absurd (false≢true (sym (ap names_page q) ∙ e))
      go (as_advised q) = absurd (false≢true (sym (ap names_page q) ∙ e))
      go (as_first q k lowest) = ap (entry_for (suc i)) q ∙ sym lowest
      go (as_repeat q k later) = ap (entry_for (suc i)) q

  -- so is that of the lowest slot itself
  entered_own : (i : ℕ) → i < c.count → (entry_at c i).kind ≡ 2 → lowest_at c i ≡ suc i → under i ≡ lowest_at c i
  entered_own i l k lowest =
      entered_for i l ∙ ⊎_elim (ap (entry_for (suc i))) (ap (entry_for (suc i))) ((t.slots i l).lowest_slot_lem k lowest) ∙ sym lowest

  -- and then that lowest slot is held
  holds_lowest : (i h : ℕ) → i < c.count → (entry_at c i).kind ≡ 2 → under i ≡ lowest_at c i → is_held (enter h (under i)) (lowest_at c i) ≡ true
  holds_lowest i h l k e =
      let a = leading c i l k in
      let number : Slot (lowest_at c i) = record { some = a.some; low = omega (arith, a.reaches, (slot_number_lem i l).low) } in
      rw e (held_entered h (lowest_at c i) number)

  -- the slot that a page is entered under has that page
  entered_same : (i j : ℕ) → i < c.count → (entry_at c i).kind ≡ 2 → under i ≡ suc j → Same (page_at c i) (page_at c j)
  entered_same i j l k e = go (told_as_lem i l)
    where
      at : (n : ℕ) → entry_for (suc i) (tells m i) ≡ n → suc j ≡ n
      at n q = sym e ∙ entered_for i l ∙ q

      here : entry_for (suc i) (tells m i) ≡ suc i → Same (page_at c i) (page_at c j)
      here q = let same : j ≡ i = omega (arith, at (suc i) q) in rw same (same_reflexive (page_at c i))

      go : ToldAs i → Same (page_at c i) (page_at c j)
      go (as_optional q) = here (ap (entry_for (suc i)) q)
      go (as_advised q) = here (ap (entry_for (suc i)) q)
      go (as_first q _ _) = here (ap (entry_for (suc i)) q)
      go (as_repeat q _ _) =
          let same : j ≡ lowest_at c i - 1 = omega (arith, at (lowest_at c i) (ap (entry_for (suc i)) q)) in
          rw same (same_symmetric (page_at c (lowest_at c i - 1)) (page_at c i) (leading c i l k).same)

  -- slots pass a board, and it gets the page of one
  abbrev pass : ℕ → Board → Board
  pass i b = passing c m received w i b

  abbrev with_page_lem : ℕ → Board → Board
  with_page_lem i b = entering c m received i b

  -- a slot that isn't lost passes
  heard : (lost : ℕ → Bool) (b : Board) (i : ℕ) → lost i ≡ false → board_after c m received w lost b (suc i) ≡ pass i (board_after c m received w lost b i)
  unfolding board_after
  heard lost b i e = rw e

  -- a board that reads a slot with a page gets it
  gets : (i : ℕ) (b : Board) → (decide (obeyed m received) (suc i) w b.held).read ≡ true → (entry_at c i).kind ≡ 2 → pass i b ≡ with_page_lem i b
  gets i b r k = rw (r, eq-eqb (entry_at c i).kind 2 k)

  -- a fact of boards that stays with every page got
  abbrev Stays : (Board → Type 0) → Type 0
  Stays P = (i : ℕ) (b : Board) → i < c.count → (entry_at c i).kind ≡ 2 → P b → P (with_page_lem i b)

  stays_held : (n : ℕ) → Stays (λ (b : Board). Holds b n)
  stays_held n i b l k q = held_kept b.held _ n q

  stays_got : (x : Name) → Stays (λ (b : Board). Has b x)
  unfolding some
  stays_got x i b l k q = rw q (or-true (same_page x (page_at c i)))

  module _ (P : Board → Type 0) (enters : Stays P) where
    -- it stays when a slot passes
    passes : (i : ℕ) (b : Board) → i < c.count → P b → P (pass i b)
    passes i b l q =
        true_or_false (decide (obeyed m received) (suc i) w b.held).read
        (λ r. rw r (true_or_false (eqb (entry_at c i).kind 2) (λ e. rw e (enters i b l (eqb-true _ 2 e) q)) (λ e. rw e q)))
        (λ r. rw r q)

    module _ (lost : ℕ → Bool) (b : Board) where
      -- it stays from slot n of the period to slot k, whatever is lost
      kept : (n k : ℕ) → n ≤ k → k ≤ c.count → P (board_after c m received w lost b n) → P (board_after c m received w lost b k)
      unfolding board_after
      kept n zero l far q = ⊎_elim (λ e. rw e at q) (λ s. absurd (not-suc-le-zero s)) (eq-or-lt_of_le l)
      kept n (suc k) l far q =
          ⊎_elim (λ e. subst (λ (x : ℕ). P (board_after c m received w lost b x)) e q)
          (λ s.
          let before = kept n k (le_of_suc-le-suc s) (omega arith) q in
          true_or_false (lost k) (λ e. rw e before) (λ e. rw e (passes k (board_after c m received w lost b k) far before)))
          (eq-or-lt_of_le l)

      -- and from its begin
      kept_all : (k : ℕ) → k ≤ c.count → P b → P (board_after c m received w lost b k)
      unfolding board_after
      kept_all k far q = kept 0 k (omega arith) far q

  -- the lowest slot of a page that is held stays held
  held_on : (lost : ℕ → Bool) (b : Board) (i n k : ℕ) → n ≤ k → k ≤ c.count
      → Holds (board_after c m received w lost b n) (lowest_at c i) → Holds (board_after c m received w lost b k) (lowest_at c i)
  held_on lost b i = kept (λ (x : Board). Holds x (lowest_at c i)) (stays_held (lowest_at c i)) lost b

  pub reads_once : ReadsOnce c m received w
  reads_once lost b i k g l far e =
      let near : i < c.count = omega arith in
      let now : Board = board_after c m received w lost b i in
      let h : ℕ = (board_after c m received w lost b k).held in
      let entered : Holds (board_after c m received w lost b (suc i)) (lowest_at c i) =
      rw (heard lost b i g.heard, gets i now g.reads g.page)
      (holds_lowest i now.held near g.page (entered_lowest i near g.named))
      in
      let held : is_held h (lowest_at c i) ≡ true = held_on lost b i (suc i) k l (omega arith) entered in
      decided h k far false (ap (for h) e ∙ rw held (and-false (first_matches w (tells m (lowest_at c i - 1)))))

  -- a board that gets a page has it
  has_own : (i : ℕ) (b : Board) → Has (with_page_lem i b) (page_at c i)
  unfolding some
  has_own i b = rw (same_reflexive (page_at c i))

  -- a page got leaves the held set true of the board
  true_with_page : Stays (HeldTruly c)
  true_with_page i b l k before j lowest q =
      true_or_false (eqb (under i) (suc j))
      (λ e. has_same (with_page_lem i b) (page_at c i) (page_at c j) (entered_same i j l k (eqb-true _ (suc j) e)) (has_own i b))
      (λ e. stays_got (page_at c j) i b l k (before j lowest (sym (held_others b.held (under i) (suc j) (eqb-false _ (suc j) e)) ∙ q)))

  pub stays_true : StaysTrue c m received w
  stays_true lost b = kept_all (HeldTruly c) true_with_page lost b c.count (omega arith)

  -- a slot of a wanted page is read, or its page's lowest slot is held already
  data Met (h i : ℕ) : Type 0 where
    reads_it : (decide (obeyed m received) (suc i) w h).read ≡ true → Met h i
    holds_it : is_held h (lowest_at c i) ≡ true → Met h i

  met : (h i : ℕ) → WantedPage c w i → calls_for (tells m i) ≡ true → Met h i
  met h i q e = go (told_as_lem i q.below)
    where
      reads : for h (tells m i) ≡ true → Met h i
      reads r = reads_it (ap (λ (d : Decided). d.read) (decided h i q.below true r))

      go : ToldAs i → Met h i
      go (as_optional f) = absurd (false≢true (sym (ap calls_for f) ∙ e))
      go (as_advised f) = reads (ap (for h) f)
      go (as_first f _ _) = reads (first_read h i q f)
      go (as_repeat f _ _) =
          let matches : first_matches w (tells m (lowest_at c i - 1)) ≡ true =
          ap (first_matches w) (repeat_first i q.below q.page f) ∙ low15_wanted w (entry_at c i).id ∙ q.wanted
          in
          true_or_false (is_held h (lowest_at c i)) holds_it (λ x. reads (ap (for h) f ∙ rw (matches, x)))

  -- what a slot of a wanted page leaves a board with
  module _ (i : ℕ) (b : Board) (q : WantedPage c w i) where
    has_after : HeldTruly c b → Met b.held i → Has (pass i b) (page_at c i)
    has_after true-held (reads_it r) = rw (gets i b r q.page) (has_own i b)
    has_after true-held (holds_it h) =
        let a = leading c i q.below q.page in
        let number : lowest_at c i ≡ suc (lowest_at c i - 1) = omega (arith, a.some) in
        passes (λ (x : Board). Has x (page_at c i)) (stays_got (page_at c i)) i b q.below
        (has_same b (page_at c (lowest_at c i - 1)) (page_at c i) a.same
        (true-held (lowest_at c i - 1) (leads c i q.below q.page) (ap (is_held b.held) (sym number) ∙ h)))

    holds_after : under i ≡ lowest_at c i → Met b.held i → Holds (pass i b) (lowest_at c i)
    holds_after e (reads_it r) = rw (gets i b r q.page) (holds_lowest i b.held q.below q.page e)
    holds_after e (holds_it h) = passes (λ (x : Board). Holds x (lowest_at c i)) (stays_held (lowest_at c i)) i b q.below h

  pub period_with_losses : PeriodWithLosses c m received w
  period_with_losses lost b true-held i q e =
      record {
        has =
            λ k.
            kept (λ (x : Board). Has x (page_at c i)) (stays_got (page_at c i)) lost b (suc i) c.count q.below (omega arith)
            (rw passed (has_after i now q true_now (met now.held i q k)));
        holds = λ k. ends (entered_lowest i q.below k) (met now.held i q (names_calls (tells m i) k));
        holds_own =
            λ k. ends (entered_own i q.below q.page k) (reads_it (ap (λ (d : Decided). d.read) (wakes now.held i q k)));
      }
    where
      now : Board
      now = board_after c m received w lost b i

      passed : board_after c m received w lost b (suc i) ≡ pass i now
      passed = heard lost b i e

      true_now : HeldTruly c now
      true_now = kept_all (HeldTruly c) true_with_page lost b i (omega (arith, q.below)) true-held

      ends : under i ≡ lowest_at c i → Met now.held i → Holds (board_after c m received w lost b c.count) (lowest_at c i)
      ends u k = held_on lost b i (suc i) c.count q.below (omega arith) (rw passed (holds_after i now q u k))

  -- a period without losses: the lowest slot of every wanted page is heard, and told as first or advised
  pub period : Period c m received w
  period i q =
      let a = leading c i q.below q.page in
      let j : ℕ = lowest_at c i - 1 in
      let lowest = leads c i q.below q.page in
      let wanted : WantedPage c w j = record { below = lowest.below; page = lowest.page; wanted = rw a.id q.wanted } in
      let h = period_with_losses none_lost fresh (none_held_truly c fresh refl) j wanted refl in
      let called : calls_for (tells m j) ≡ true = ⊎_elim (ap calls_for) (ap calls_for) ((t.slots j lowest.below).lowest_slot_lem lowest.page lowest.own) in
      record {
        has = has_same (board_after c m received w none_lost fresh c.count) (page_at c j) (page_at c i) a.same (h.has called);
        holds = rw a.own at (h.holds_own lowest.own);
      }
