-- Demand 2: a message is handed out exactly when the latest pieces are a run of its blocks, and its octets are theirs; what any other piece does.
use Rattle.laws.proofs.Base.{◌≡◌, refl, sym, ◌∙◌, Bool, true, false, cond, not, ◌&&◌, false≢true, or-true, List, [], ◌∷◌, ◌++◌, append_assoc, append-nil, ◌⊎◌}
use Rattle.laws.proofs.Base.{inl, inr, ⊎_elim, ℕ, zero, suc, ◌*◌, ◌-◌, ◌≤◌, ◌<◌, not-suc-le-zero, arith, length, take, get_or, list_get_d_append, get_or-append_seam}
use Rattle.laws.proofs.Base.{take-suc, take_all, length-take-le, eqb, leb, eq-eqb, ne_eqb, eqb-true, eqb-false, leb-true, le-leb, not-false}
use Rattle.laws.specs.Ruled.{ruled}
use Rattle.laws.proofs.Ruled.{NoneHolds, ruled_passes}
use Rattle.laws.proofs.Snoc.{length_snoc, snoc_injective, each_snoc}
use Rattle.laws.proofs.Tests.{true_or_false, both, neither, either}
use Rattle.block.specs.Paper.{Kind, page, schedule, kind_number, sequence_code, link, mark, code, last, follows, reserved_code, faults, filled, Held, Given, start, proper, refusal, made, step}
use Rattle.block.specs.Inner.{outcome}
use Rattle.block_history.specs.Claims.{completes, IsBlock, Run, Unfinished, Latest, contents, after, answered, holding, refused_by}
use Rattle.block_history.specs.Claims.{GoesOn, CompleteExactly, CompleteGives, TakenGives, GoesOnDecided, RefusedGives}
use Rattle.block_history.proofs.Joins.{Pieces, number_of, next_of, Part, nothing, more, Base, fresh, holds, join, length_part, proper_holding, proper_start}

pub after_append : (h : Held) (ps qs : Pieces) → after h (ps ++ qs) ≡ after (after h ps) qs
unfolding after
after_append h [] qs = refl
after_append h (p ∷ ps) qs = after_append (step h p).next ps qs

-- how a state stands to the pieces that led to it: started, or holding the latest of them
pub data Standing (h : Held) (ps : Pieces) : Type 0 where
  idle : h ≡ start → Standing h ps
  busy : (k : Kind) (older u : Pieces) → ps ≡ older ++ u → Part k u → 1 ≤ length u → h ≡ holding k u → Standing h ps

pub standing_proper : {h : Held} {ps : Pieces} → Standing h ps → proper h ≡ true
standing_proper (idle e) = rw e proper_start
standing_proper (busy k older u s part some e) = rw e (proper_holding part some)

-- what a piece does: it is refused, or it is the next block of a message whose earlier blocks are the latest pieces
data View (h : Held) (ps : Pieces) (p : List ℕ) : Type 0 where
  out : step h p ≡ refusal (refused_by p) → View h ps p
  joins : (k : Kind) (older u : Pieces) → ps ≡ older ++ u → Part k u → IsBlock k (length u) p
      → step h p ≡ outcome (last p (suc (length u))) (holding k (u ++ (p ∷ []))) → View h ps p

-- whatever number of blocks is taken, what refuses a piece is the same
same_number : {A : Type 0} (by : ℕ → A) (t : ℕ) (p : List ℕ) (x : A) → (ruled by (faults t p) x ≡ by (refused_by p)) ⊎ NoneHolds (faults t p)
same_number by t p x =
    true_or_false (not (eqb (length p) 23)) (λ a. inl (rw a)) (λ a.
    true_or_false (not (eqb (link p) 1)) (λ b. inl (rw (a, b))) (λ b.
    true_or_false (reserved_code (code p)) (λ c. inl (rw (a, b, c))) (λ c.
    true_or_false (eqb (code p) 15) (λ d. inl (rw (a, b, c, d))) (λ d.
    true_or_false (follows (code p) && not (eqb (code p) t)) (λ e. inl (rw (a, b, c, d, e))) (λ e. inr (a, (b, (c, (d, (e, tt))))))))))

-- a code that is neither reserved, nor null, nor a follower's begins a message
beginning : (c : ℕ) → reserved_code c ≡ false → eqb c 15 ≡ false → follows c ≡ false → (c ≡ 0) ⊎ (c ≡ 8)
beginning c r n f =
    true_or_false (eqb c 0) (λ e. inl (eqb-true c 0 e)) (λ e.
    true_or_false (eqb c 8) (λ q. inr (eqb-true c 8 q)) (λ q.
    true_or_false (leb c 3)
    (λ t.
    let some : 1 ≤ c = omega (arith, eqb-false c 0 e) in
    absurd (false≢true (sym (rw (le-leb 1 c some, t) at f))))
    (λ t. absurd (false≢true (sym (rw (t, q, n) at r))))))

-- a piece that nothing refuses is the next block of a message
passing : {h : Held} {ps : Pieces} (p : List ℕ) → Standing h ps → NoneHolds (faults h.taken p) → View h ps p
passing {h} {ps} p s f = go (follows (code p)) refl s
  where
    whole : length p ≡ 23
    whole = eqb-true (length p) 23 (not-false _ f.0)

    ours : link p ≡ 1
    ours = eqb-true (link p) 1 (not-false _ f.1.0)

    begins : (k : Kind) → code p ≡ sequence_code k 0 → View h ps p
    begins k e =
        let b : IsBlock k 0 p = record { whole = whole; ours = ours; numbered = e } in
        joins k ps [] (sym (append-nil ps)) nothing b (join p nothing (fresh (standing_proper s)) b)

    go : (b : Bool) → follows (code p) ≡ b → Standing h ps → View h ps p
    go false e t = ⊎_elim (begins page) (begins schedule) (beginning (code p) f.1.1.0 f.1.1.1.0 e)
    go true e (idle q) =
        let some = leb-true 1 (code p) (both _ _ e).0 in
        let same = eqb-true (code p) h.taken (not-false _ (rw e at f.1.1.1.1.0)) in
        let none : h.taken ≡ 0 = rw q in
        absurd (omega arith)
    go true e (busy k older u sp part some q) =
        let same = eqb-true (code p) h.taken (not-false _ (rw e at f.1.1.1.1.0)) in
        let own : eqb (length u) 0 ≡ false = ne_eqb (length u) 0 (omega arith) in
        let b : IsBlock k (length u) p = record { whole = whole; ours = ours; numbered = same ∙ rw (q, own) } in
        joins k older u sp part b (join p part (holds some q) b)

-- every answer's number is small enough to share the returned number with the octets received
pub number_small : (h : Held) (p : List ℕ) → (step h p).number ≤ 8
unfolding step
number_small h p =
    leb-true _ 8
    (ruled_passes (λ (n : ℕ). leb n 8) (λ (g : Given). g.number) refusal ((not (proper h), 8) ∷ faults h.taken p) _ (λ n. refl) refl
    (answers (last p (made h p).taken) (made h p)))
  where
    answers : (l : Bool) (a : Held) → leb (outcome l a).number 8 ≡ true
    answers false a = refl
    answers true a = true_or_false (eqb a.kind 2) (λ e. rw e) (λ e. rw e)

view : {h : Held} {ps : Pieces} (p : List ℕ) → Standing h ps → View h ps p
unfolding step
view {h} {ps} p s =
    let x = outcome (last p (made h p).taken) (made h p) in
    ⊎_elim (λ e. out (rw (standing_proper s) e)) (λ f. passing p s f) (same_number refusal h.taken p x)

-- blocks of a part with one that does not complete them are a part
grown : {k : Kind} {u : Pieces} {p : List ℕ} → Part k u → IsBlock k (length u) p → last p (suc (length u)) ≡ false → Part k (u ++ (p ∷ []))
grown {k} {u} {p} part b e =
    let few = length_part part in
    let w = neither (eqb (mark p) 1) (eqb (suc (length u)) 4) e in
    more part (omega (arith, eqb-false (suc (length u)) 4 w.1)) b (omega (arith, eqb-false (mark p) 1 w.0))

-- and a block of a part completes nothing
unfinished_last : (p : List ℕ) (n : ℕ) → n ≤ 2 → mark p ≡ 0 → last p (suc n) ≡ false
unfinished_last p n h e = rw e (ne_eqb (suc n) 4 (omega arith))

-- one piece more
stand : {h : Held} {ps : Pieces} (p : List ℕ) → Standing h ps → Standing (step h p).next (ps ++ (p ∷ []))
stand {h} {ps} p s = go (view p s)
  where
    go : View h ps p → Standing (step h p).next (ps ++ (p ∷ []))
    go (out q) = idle (next_of q)
    go (joins k older u sp part b q) =
        true_or_false (last p (suc (length u))) (λ e. idle (next_of (rw e at q)))
        (λ e. busy k older (u ++ (p ∷ [])) (rw sp (append_assoc older u (p ∷ []))) (grown part b e)
        (rw (length_snoc u p) (omega arith)) (next_of (rw e at q)))

standing_from : {h : Held} {qs : Pieces} → Standing h qs → (ps : Pieces) → Standing (after h ps) (qs ++ ps)
unfolding after
standing_from {h} {qs} s [] = rw (append-nil qs) s
standing_from {h} {qs} s (p ∷ ps) = rw (append_assoc qs (p ∷ []) ps) at (standing_from {h = (step h p).next} {qs = qs ++ (p ∷ [])} (stand p s) ps)

-- from a started state, every state holds the latest pieces or nothing
pub standing : (ps : Pieces) → Standing (after start ps) ps
standing ps = standing_from {qs = []} (idle refl) ps

-- the blocks of a part, each with its mark
each_part : {k : Kind} {u : Pieces} → Part k u → (i : ℕ) → i < length u → IsBlock k i (get_or u i []) × (mark (get_or u i []) ≡ 0)
each_part nothing i h = absurd (not-suc-le-zero h)
each_part {k} (more {u} {p} part few b m) i h =
    each_snoc (λ (j : ℕ) (q : List ℕ). IsBlock k j q × (mark q ≡ 0)) [] u p (λ j g. each_part part j g) (b, m) i h

-- blocks with the one that completes them are a run
run_of : {k : Kind} {u : Pieces} {p : List ℕ} → Part k u → IsBlock k (length u) p → last p (suc (length u)) ≡ true → Run k (u ++ (p ∷ []))
run_of {k} {u} {p} part b e =
    let n = length_snoc u p in
    let few = length_part part in
    record {
      some = omega arith;
      most = omega arith;
      each = each_snoc (IsBlock k) [] u p (λ i h. (each_part part i h).0) b;
      unmarked = λ i h.
          let below : i < length u = omega arith in
          rw (list_get_d_append u (p ∷ []) [] i below) (each_part part i below).1;
      ended = ⊎_elim
          (λ q.
          let at : length (u ++ (p ∷ [])) - 1 ≡ length u = omega arith in
          inl (rw (at, get_or-append_seam u p [] []) (eqb-true (mark p) 1 q)))
          (λ q. inr (n ∙ eqb-true (suc (length u)) 4 q))
          (either (eqb (mark p) 1) (eqb (suc (length u)) 4) e);
    }

-- the number of a message handed out is its kind's
pub number_handed : (k : Kind) → cond (eqb (kind_number k) 2) 7 0 ≡ completes k
number_handed page = refl
number_handed schedule = refl

completes_injective : (j k : Kind) → completes j ≡ completes k → j ≡ k
completes_injective page page e = refl
completes_injective page schedule e = absurd (omega arith)
completes_injective schedule page e = absurd (omega arith)
completes_injective schedule schedule e = refl

-- a message complete is not answered as a piece that is taken or refused
pub not_completes : (k : Kind) (n : ℕ) → (n ≡ 0 → ⊥) → (n ≡ 7 → ⊥) → n ≡ completes k → ⊥
not_completes page n a b e = a e
not_completes schedule n a b e = b e

refused_bounds : (p : List ℕ) → (2 ≤ refused_by p) × (refused_by p ≤ 6)
refused_bounds p =
    let tests : List (Bool × ℕ) = (not (eqb (length p) 23), 2) ∷ (not (eqb (link p) 1), 3) ∷ (reserved_code (code p), 4) ∷ (eqb (code p) 15, 5) ∷ [] in
    let b = both _ _ (ruled_passes (λ (n : ℕ). leb 2 n && leb n 6) (λ (n : ℕ). n) (λ (n : ℕ). n) tests 6 (λ n. refl) refl refl) in
    (leb-true 2 _ b.0, leb-true _ 6 b.1)

-- pieces with one more are the latest
latest_snoc : {ps : Pieces} (older u : Pieces) (p : List ℕ) → ps ≡ older ++ u → Latest ps p (u ++ (p ∷ []))
latest_snoc older u p e = record { older = older; split = rw e (append_assoc older u (p ∷ [])) }

-- a message complete at a piece has its run in the latest pieces
complete_run : (k : Kind) (ps : Pieces) (p : List ℕ) → (answered ps p).number ≡ completes k → (r : Pieces) × Latest ps p r × Run k r
complete_run k ps p e = go (view p (standing ps))
  where
    go : View (after start ps) ps p → (r : Pieces) × Latest ps p r × Run k r
    go (out q) =
        let b = refused_bounds p in
        absurd (not_completes k (refused_by p) (omega arith) (omega arith) (sym (number_of q) ∙ e))
    go (joins j older u sp part b q) =
        true_or_false (last p (suc (length u)))
        (λ t.
        let same = completes_injective j k (sym (number_handed j) ∙ sym (number_of (rw t at q)) ∙ e) in
        (u ++ (p ∷ []), latest_snoc older u p sp, rw same at (run_of part b t)))
        (λ t. absurd (not_completes k 1 (omega arith) (omega arith) (sym (number_of (rw t at q)) ∙ e)))

-- a proper state that is given the blocks of a part holds them
pub held_part : {k : Kind} {u : Pieces} (h : Held) → proper h ≡ true → Part k u → Base k (after h u) u
unfolding after
held_part h good nothing = fresh good
held_part {k} h good (more {u} {p} part few b m) =
    let one : after h (u ++ (p ∷ [])) ≡ (step (after h u) p).next = after_append h u (p ∷ []) in
    let taken = join p part (held_part h good part) b in
    holds {u = u ++ (p ∷ [])} (rw (length_snoc u p) (omega arith)) (one ∙ next_of (rw (unfinished_last p (length u) few m) at taken))

-- blocks of a message from its first on, none marked before the last of them
module _ (k : Kind) (r : Pieces) (some : 1 ≤ length r) (most : length r ≤ 4)
    (each : (i : ℕ) → i < length r → IsBlock k i (get_or r i [])) (unmarked : (i : ℕ) → suc i < length r → mark (get_or r i []) ≡ 0) where
  -- those before one of them are a part
  part_of : (n : ℕ) → n < length r → Part k (take n r)
  part_of zero h = nothing
  part_of (suc n) h =
      let size : length (take n r) ≡ n = length-take-le n r (omega arith) in
      rw (take-suc r n [] (omega arith))
      (more {u = take n r} {p = get_or r n []} (part_of n (omega arith)) (rw size (omega arith)) (rw size (each n (omega arith))) (unmarked n h))

  -- where they are the latest pieces, the answer is theirs
  answered_blocks : (ps : Pieces) (p : List ℕ) → Latest ps p r → answered ps p ≡ outcome (last (get_or r (length r - 1) []) (length r)) (holding k r)
  answered_blocks ps p l =
      let n = length r - 1 in
      let u = take (length r - 1) r in
      let q = get_or r (length r - 1) [] in
      let part = part_of n (omega arith) in
      let size : length u ≡ n = length-take-le n r (omega arith) in
      let all : suc n ≡ length r = omega arith in
      let whole : u ++ (q ∷ []) ≡ r = sym (take-suc r n [] (omega arith)) ∙ take_all (suc n) r (omega arith) in
      let parts = snoc_injective ps (l.older ++ u) p q (l.split ∙ rw (append_assoc l.older u (q ∷ []), whole)) in
      let b : IsBlock k (length u) q = rw size (each n (omega arith)) in
      let good = standing_proper (standing l.older) in
      rw (parts.0, parts.1, after_append start l.older u)
      (rw (whole, size, all) at (join q part (held_part (after start l.older) good part) b))

-- the last block of a run completes it
finished_last : {k : Kind} {r : Pieces} → Run k r → last (get_or r (length r - 1) []) (length r) ≡ true
finished_last {k} {r} run =
    ⊎_elim (λ e. rw e) (λ e. rw (eq-eqb (length r) 4 e) (or-true (eqb (mark (get_or r (length r - 1) [])) 1))) run.ended

pub complete_gives : CompleteGives
complete_gives k ps p r l run =
    rw (finished_last run) at (answered_blocks k r run.some run.most run.each run.unmarked ps p l)
    ∙ λ i. record { number = number_handed k i; received = 22 * length r; octets = filled (contents r); next = start }

pub complete_exactly : CompleteExactly
complete_exactly k ps p =
    (complete_run k ps p, λ x. number_of (complete_gives k ps p x.0 x.1 x.2))

pub taken_gives : TakenGives
taken_gives k ps p u l un =
    let some = un.some in
    let most = un.most in
    let open_ended : last (get_or u (length u - 1) []) (length u) ≡ false =
    rw (un.unmarked (length u - 1) (omega arith)) (ne_eqb (length u) 4 (omega arith)) in
    rw open_ended at (answered_blocks k u some (omega arith) un.each (λ i h. un.unmarked i (omega arith)) ps p l)

-- blocks of a part, some of them, are unfinished
unfinished_of : {k : Kind} {u : Pieces} → Part k u → 1 ≤ length u → Unfinished k u
unfinished_of part some =
    record { some = some; most = length_part part; each = λ i h. (each_part part i h).0; unmarked = λ i h. (each_part part i h).1 }

-- the next block of a message goes on it
goes_on : {ps : Pieces} (k : Kind) (older u : Pieces) (p : List ℕ) → ps ≡ older ++ u → Part k u → IsBlock k (length u) p → GoesOn ps p
goes_on k older u p sp part b = (
  k,
  u ++ (p ∷ []),
  latest_snoc older u p sp,
  true_or_false (last p (suc (length u))) (λ e. inl (run_of part b e))
      (λ e. inr (unfinished_of (grown part b e) (rw (length_snoc u p) (omega arith)))),
)

pub goes_on_decided : GoesOnDecided
goes_on_decided ps p = go (view p (standing ps))
  where
    go : View (after start ps) ps p → GoesOn ps p ⊎ (GoesOn ps p → ⊥)
    go (joins k older u sp part b q) = inl (goes_on k older u p sp part b)
    go (out q) =
        let b = refused_bounds p in
        inr (λ x. ⊎_elim
        (λ run. not_completes x.0 (refused_by p) (omega arith) (omega arith) (sym (number_of q) ∙ number_of (complete_gives x.0 ps p x.1 x.2 run)))
        (λ un. omega (arith, number_of q, number_of (taken_gives x.0 ps p x.1 x.2 un)))
        x.3)

pub refused_gives : RefusedGives
refused_gives ps p none = go (view p (standing ps))
  where
    go : View (after start ps) ps p → answered ps p ≡ refusal (refused_by p)
    go (out q) = q
    go (joins k older u sp part b q) = absurd (none (goes_on k older u p sp part b))
