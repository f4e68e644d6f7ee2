-- Messages that match in what the readers look at are read alike, but for Begin.
use Rattle.laws.proofs.Base.{◌≡◌, refl, sym, ap, ◌∙◌, Bool, true, false, cond, not, ◌&&◌, bool_beq, List, [], ◌∷◌, ◌++◌, ℕ, suc}
use Rattle.laws.proofs.Base.{◌+◌, ◌-◌, ◌/◌, ◌%◌, ◌^◌, ◌≤◌, ◌<◌, arith, length, get_or, eqb, leb, ltb, ltb-true, ltb-false, ne_eqb}
use Rattle.sizes.specs.Paper.{whole_blocks}
use Rattle.laws.specs.Ruled.{ruled}
use Rattle.laws.specs.Upto.{some_below, count, picked}
use Rattle.laws.proofs.Upto.{some_agree}
use Rattle.schedule.specs.Paper.{octet_at, type, begin, end, new, told, place, rank, order, tells, false_repeat, in_bounds}
use Rattle.schedule.specs.Paper.{faults, shown, Read, unread, good, read, next, no_more, refusal, slot_of, given_at, given}
use Rattle.schedule.proofs.Answers.{Answered, refused, sound, answered}
use Rattle.schedule.proofs.News.{new_octet, new_beyond}
use Rattle.schedule.proofs.Places.{place_mono}
use Rattle.schedule.proofs.Repeats.{false_repeat_agree}
use Rattle.schedule_order.specs.Claims.{starting, Alike, read_with_begin, AlikeButBegin}
use Rattle.schedule_order.proofs.Ranks.{order_below, rank_below}

-- the first description starts after eight octets
pub place_least : (m : List ℕ) (k : ℕ) → 8 ≤ place m k
unfolding place
place_least m k = place_mono m 0 k (omega arith)

-- what the readers look at; of Begin only that the rule on it holds
pub record Matching (m n : List ℕ) : Type 0 where
  pub long : length m ≡ length n
  pub kind : type m ≡ type n
  pub rule : in_bounds m ≡ in_bounds n
  pub last : end m ≡ end n
  pub news : (i : ℕ) → i < 48 → new m i ≡ new n i
  pub places : (k : ℕ) → k ≤ end m → place m k ≡ place n k
  pub describes : (k : ℕ) → k < end m → told m (place m k) ≡ told n (place n k)

-- messages that agree on octets 3 to 8 have the same new bits
pub news_same : (m n : List ℕ) → ((i : ℕ) → 2 ≤ i → i < 8 → octet_at m i ≡ octet_at n i) → (i : ℕ) → i < 48 → new m i ≡ new n i
news_same m n h i l =
    sym (new_octet m i l) ∙ ap (λ (x : ℕ). eqb (x / 2 ^ (7 - i % 8) % 2) 1) (h (2 + i / 8) (omega arith) (omega arith)) ∙ new_octet n i l

pub within_same : (m n : List ℕ) → begin m ≡ begin n → end m ≡ end n → in_bounds m ≡ in_bounds n
within_same m n b e = λ p. leb 1 (b p) && (leb (b p) (e p) && leb (e p) 48)

-- what is asked for only below a bound need be equal only there
pub below_only : {A : Type 0} (i e : ℕ) (x y z : A) → (i < e → x ≡ y) → cond (ltb i e) x z ≡ cond (ltb i e) y z
below_only i e x y z h = go (ltb i e) refl
  where
    go : (b : Bool) → ltb i e ≡ b → cond b x z ≡ cond b y z
    go true q = h (ltb-true i e q)
    go false q = refl

module _ (m n : List ℕ) (a : Matching m n) where
  new_same : new m ≡ new n
  new_same = λ p i. each_new i p
    where
      each_new : (i : ℕ) → new m i ≡ new n i
      each_new i = go (ltb i 48) refl
        where
          go : (b : Bool) → ltb i 48 ≡ b → new m i ≡ new n i
          go true e = a.news i (ltb-true i 48 e)
          go false e = let far = ltb-false i 48 e in sym (new_beyond m i far) ∙ new_beyond n i far

  rank_same : (i : ℕ) → rank m i ≡ rank n i
  rank_same i =
      λ p. cond (new_same p i) 0 (count (λ (x : ℕ). bool_beq (new_same p x) true) (a.last p)) + count (λ (x : ℕ). bool_beq (new_same p x) (new_same p i)) i

  order_same : order m ≡ order n
  unfolding order
  order_same =
      λ p. picked (λ (x : ℕ). bool_beq (new_same p x) true) (a.last p) ++ picked (λ (x : ℕ). bool_beq (new_same p x) false) (a.last p)

  tells_same : (i : ℕ) → i < end m → tells m i ≡ tells n i
  unfolding tells
  tells_same i l = a.describes (rank m i) (rank_below m i l) ∙ ap (λ (k : ℕ). told n (place n k)) (rank_same i)

  shown_same : (i : ℕ) → i < end m → shown m i ≡ shown n i
  shown_same i l = λ p. record { new = new_same p i; told = tells_same i l p }

  starting_same : (i : ℕ) → i < end m → starting m i ≡ starting n i
  starting_same i l = let low = rank_below m i l in a.places (rank m i) (omega arith) ∙ ap (place n) (rank_same i)

  given_at_same : (k : ℕ) → given_at m k ≡ given_at n k
  given_at_same k =
      below_only k (end m) (next (suc (slot_of m k)) (shown m (slot_of m k))) (next (suc (slot_of n k)) (shown n (slot_of n k))) no_more
      (λ l.
      ap (next (suc (slot_of m k))) (shown_same (slot_of m k) (order_below m k l))
      ∙ (λ p. next (suc (get_or (order_same p) k 0)) (shown n (get_or (order_same p) k 0))))
      ∙ ap (λ (e : ℕ). cond (ltb k e) (next (suc (slot_of n k)) (shown n (slot_of n k))) no_more) a.last

  last_same : place m (end m) ≡ place n (end n)
  last_same = a.places (end m) (omega arith) ∙ ap (place n) a.last

  false_same : some_below (false_repeat (tells m)) (end m) ≡ some_below (false_repeat (tells n)) (end n)
  false_same =
      some_agree (false_repeat (tells m)) (false_repeat (tells n)) (end m) (λ i l. false_repeat_agree (tells m) (tells n) (end m) i tells_same l)
      ∙ ap (some_below (false_repeat (tells n))) a.last

  module _ (received : ℕ) where
    faults_same : faults m received ≡ faults n received
    faults_same =
        λ p. (not (eqb (a.long p) 88), 16)
        ∷ (not (whole_blocks received), 18)
        ∷ (not (eqb (a.kind p) 0), 20)
        ∷ (not (a.rule p), 21)
        ∷ (some_below (λ (i : ℕ). leb (a.last p) i && new_same p i) 48, 22)
        ∷ (ltb received (last_same p), 23)
        ∷ (false_same p, 24)
        ∷ []

    gives_same : (k : ℕ) → given m received k ≡ given n received k
    unfolding given
    gives_same k = λ p. ruled refusal (faults_same p) (given_at_same k p)

    read_begun : read n received ≡ read_with_begin (begin n) (read m received)
    unfolding read
    read_begun = sym (λ p. ruled unread (faults_same p) (good n)) ∙ go (answered m received)
      where
        go : Answered m received → ruled unread (faults m received) (good n) ≡ read_with_begin (begin n) (read m received)
        go (refused x s h) = h Read unread (good n) ∙ sym (ap (read_with_begin (begin n)) (h Read unread (good m)) ∙ rw (ne_eqb x 0 s))
        go (sound w) =
            w.answers Read unread (good n)
            ∙ sym (ap (read_with_begin (begin n)) (w.answers Read unread (good m)) ∙ (λ p. record { number = 0; begin = begin n; end = a.last p }))

    pub alike_but_begin : AlikeButBegin m n received
    alike_but_begin =
        record {
          reads = read_begun;
          places = starting_same;
          shows = shown_same;
          gives = gives_same;
        }

    pub alike : begin m ≡ begin n → Alike m n received
    unfolding read
    alike e =
        record {
          reads = λ p. ruled unread (faults_same p) (record { number = 0; begin = e p; end = a.last p });
          places = starting_same;
          shows = shown_same;
          gives = gives_same;
        }
