-- The slots that the reader of descriptions gives from opening on, collected one after the other.
use Rattle.laws.proofs.Base.{◌≡◌, refl, sym, ap, ◌∙◌, false, cond, List, map, ◌⊎◌, inl, inr, ⊎_elim, ℕ, ◌≤◌, ◌<◌, arith, length, get_or, replicate, get_or-replicate}
use Rattle.laws.proofs.Base.{length-map, list_get_d_map, ext_get_or, ltb, lt-ltb, le-ltb, ltb-false}
use Rattle.laws.specs.Upto.{each}
use Rattle.laws.proofs.Tests.{true_or_false, le_or_lt}
use Rattle.laws.proofs.Upto.{each_length, each_at}
use Rattle.schedule.specs.declared.Description.TheVariants.{Optional}
use Rattle.schedule.specs.Paper.{end, GivenSlot, next, no_more, refusal, given_at, given}
use Rattle.schedule.specs.Inner.{zeroed}
use Rattle.schedule_given.specs.declared.Numbered.{Numbered as NumberedCode}
use Rattle.descriptions.specs as defs
use defs.Paper.{Numbered, nothing, entry, Ordered, ordered}
use defs.Coded.{numbered_of}
use Rattle.descriptions.proofs.Stepping.{Told, refused, whole, told}

-- what is read past the end of an array, which never is
abbrev past : NumberedCode
past = record { number = 0; slot = zeroed }

-- an entry before it is given
abbrev blank : NumberedCode
blank = record { number = 0; slot = record { new = false; description = Optional } }

-- which of the three answers it is, and the number of a refusal
abbrev kind : GivenSlot → ℕ
kind (next n s) = 0
kind no_more = 1
kind (refusal n) = 2

abbrev by : GivenSlot → ℕ
by (next n s) = 0
by no_more = 0
by (refusal n) = n

-- over a message that is read there are slots up to End, and then no more
slot_within : (m : List ℕ) (k : ℕ) → k < end m → kind (given_at m k) ≡ 0
slot_within m k l = rw (lt-ltb k (end m) l)

no_more_past : (m : List ℕ) (k : ℕ) → end m ≤ k → given_at m k ≡ no_more
no_more_past m k l = rw (le-ltb k (end m) l)

-- what is answered with the entries g, by a number and a count
abbrev answer : List NumberedCode → ℕ → ℕ → Ordered
answer g n k = record { number = n; count = k; given = map numbered_of g }

module _ (m : List ℕ) (received : ℕ) where
  -- what stands at place i once k slots are given
  abbrev up_to : ℕ → ℕ → Numbered
  up_to k i = cond (ltb i k) (entry (given m received i)) nothing

  -- the entries g once k slots are given
  pub record Gave (k : ℕ) (g : List NumberedCode) : Type 0 where
    pub long : length g ≡ 48
    pub slots : (i : ℕ) → i < k → kind (given m received i) ≡ 0
    pub entries : (i : ℕ) → i < 48 → numbered_of (get_or g i past) ≡ up_to k i

  pub gave_none : Gave 0 (replicate 48 blank)
  gave_none =
      record {
        long = refl;
        slots = λ i l. absurd (omega arith);
        entries = λ i l. rw (get_or-replicate 48 i blank past l, le-ltb i 0 (omega arith));
      }

module _ {m : List ℕ} {received k : ℕ} {g : List NumberedCode} (e : Gave m received k g) where
  collected : (f : ℕ → Numbered) → ((i : ℕ) → i < 48 → up_to m received k i ≡ f i) → map numbered_of g ≡ each f 48
  collected f h =
      ext_get_or (numbered_of past) (map numbered_of g) (each f 48) (length-map g numbered_of ∙ e.long ∙ sym (each_length f 48))
      (λ i l.
      let low : i < 48 = omega (arith, length-map g numbered_of, e.long) in
      list_get_d_map numbered_of g i past ∙ e.entries i low ∙ h i low ∙ sym (each_at f 48 i (numbered_of past) low))

  pub gave_refused : (n : ℕ) → refusal n ≡ given m received k → answer g n 0 ≡ ordered m received
  gave_refused n q = go (told m received)
    where
      none : (i j : ℕ) → given m received i ≡ refusal j → up_to m received k i ≡ nothing
      none i j h = true_or_false (ltb i k) (λ b. rw b (ap entry h)) (λ b. rw b)

      go : Told m received → answer g n 0 ≡ ordered m received
      go (refused j h o) =
          let same = ap by (q ∙ h k) in
          let all = collected (λ (i : ℕ). nothing) (λ i l. none i j (h i)) in
          (λ i. record { number = same i; count = 0; given = all i }) ∙ sym o
      go (whole w h o) =
          let z : 2 ≡ kind (given_at m k) = ap kind (q ∙ h k) in
          absurd
          (le_or_lt (end m) k (λ past. omega (arith, ap kind (no_more_past m k past))) (λ within. omega (arith, slot_within m k within)))

  -- with all slots given, their number is End
  all_end : end m ≤ 48 → ((i : ℕ) → given m received i ≡ given_at m i) → (no_more ≡ given m received k) ⊎ (48 ≤ k) → k ≤ 48 → k ≡ end m
  all_end w h q l =
      let high : end m ≤ k =
      le_or_lt (end m) k (λ past. past) (λ within.
      ⊎_elim (λ x. let z : 1 ≡ kind (given_at m k) = ap kind (x ∙ h k) in absurd (omega (arith, slot_within m k within))) (λ x. omega arith) q) in
      le_or_lt k (end m) (λ low. omega arith) (λ more.
      let z : kind (given_at m (end m)) ≡ 0 = sym (ap kind (h (end m))) ∙ e.slots (end m) more in
      absurd (omega (arith, ap kind (no_more_past m (end m) (omega arith)))))

  pub gave_all : (no_more ≡ given m received k) ⊎ (48 ≤ k) → k ≤ 48 → answer g 0 k ≡ ordered m received
  gave_all q l = go (told m received)
    where
      none : (j : ℕ) → ((i : ℕ) → given m received i ≡ refusal j) → (no_more ≡ given m received k) ⊎ (48 ≤ k) → ⊥
      none j h (inl x) = let z : ◌≡◌ {A = ℕ} 1 2 = ap kind (x ∙ h k) in omega arith
      none j h (inr x) = let z : ◌≡◌ {A = ℕ} 2 0 = sym (ap kind (h 0)) ∙ e.slots 0 (omega arith) in omega arith

      alike : k ≡ end m → ((i : ℕ) → given m received i ≡ given_at m i) → (i : ℕ) → up_to m received k i ≡ entry (given_at m i)
      alike c h i =
          true_or_false (ltb i k)
          (λ p. rw p (ap entry (h i)))
          (λ p. let high = ltb-false i k p in rw p (sym (ap entry (no_more_past m i (omega arith)))))

      go : Told m received → answer g 0 k ≡ ordered m received
      go (refused j h o) = absurd (none j h q)
      go (whole w h o) =
          let c = all_end w h q l in
          let all = collected (λ (i : ℕ). entry (given_at m i)) (λ i b. alike c h i) in
          (λ i. record { number = 0; count = c i; given = all i }) ∙ sym o
