-- Laws of the octets of descriptions: group by group, slot by slot.
use Rattle.laws.proofs.Base.{◌≡◌, refl, sym, ap, ◌∙◌, Bool, true, false, cond, List, [], ◌∷◌, ◌++◌, append_assoc, append-nil, ⊎_elim, ℕ, zero, suc}
use Rattle.laws.proofs.Base.{◌+◌, ◌*◌, ◌≤◌, ◌<◌, eq-or-lt_of_le, le_of_suc-le-suc, not-suc-le-zero, add-one, arith, length, length-append, sets}
use Rattle.laws.specs.Upto.{picked}
use Rattle.schedule.specs.Paper.{Told, first, again, optional, advised, Shown}
use Rattle.sender_message.specs.Paper.{octets_of, octets_of_all, grouped_in, group, descriptions}
use Rattle.sender_message.proofs.Padded.{sets_append}

octets_of_few : (t : Told) → length (octets_of t) ≤ 2
octets_of_few (first x) = omega arith
octets_of_few (again n) = omega arith
octets_of_few optional = omega arith
octets_of_few advised = omega arith

module _ (s : ℕ → Shown) where
  pub octets_of_all_append : (xs ys : List ℕ) → octets_of_all s (xs ++ ys) ≡ octets_of_all s xs ++ octets_of_all s ys
  unfolding octets_of_all
  octets_of_all_append [] ys = refl
  octets_of_all_append (x ∷ xs) ys =
      rw (octets_of_all_append xs ys) (sym (append_assoc (octets_of (s x).told) (octets_of_all s xs) (octets_of_all s ys)))

  -- the octets of the descriptions of the slots below n whose new bit is b
  abbrev pub told : Bool → ℕ → List ℕ
  told b n = octets_of_all s (group s n b)

  pub descriptions_groups : (n : ℕ) → descriptions s n ≡ told true n ++ told false n
  unfolding descriptions
  descriptions_groups n = octets_of_all_append (group s n true) (group s n false)

  pub told_none : (b : Bool) → told b 0 ≡ []
  unfolding octets_of_all picked
  told_none b = refl

  pub told_suc : (b : Bool) (n : ℕ) → told b (suc n) ≡ told b n ++ cond (grouped_in s b n) (octets_of (s n).told) []
  unfolding octets_of_all picked
  told_suc b n = octets_of_all_append (picked (grouped_in s b) n) (cond (grouped_in s b n) (n ∷ []) []) ∙ ap (λ (l : List ℕ). told b n ++ l) (go (grouped_in s b n))
    where
      go : (q : Bool) → octets_of_all s (cond q (n ∷ []) []) ≡ cond q (octets_of (s n).told) []
      go true = append-nil (octets_of (s n).told)
      go false = refl

  -- a slot of the group adds its description, another adds nothing
  pub told_in : (b : Bool) (n : ℕ) → grouped_in s b n ≡ true → told b (n + 1) ≡ told b n ++ octets_of (s n).told
  told_in b n e = rw add-one (told_suc b n ∙ rw e)

  pub told_out : (b : Bool) (n : ℕ) → grouped_in s b n ≡ false → told b (n + 1) ≡ told b n
  told_out b n e = rw add-one (told_suc b n ∙ rw e (append-nil (told b n)))

  length_suc : (b : Bool) (n : ℕ) → length (told b (suc n)) ≡ length (told b n) + length (cond (grouped_in s b n) (octets_of (s n).told) [])
  length_suc b n = ap length (told_suc b n) ∙ length-append (told b n) (cond (grouped_in s b n) (octets_of (s n).told) [])

  -- a turn of the loop that puts a group's descriptions one after the other
  pub put_in : (b : Bool) (n : ℕ) (o : List ℕ) (a : ℕ) (x : List ℕ) (at : ℕ) → x ≡ sets o a (told b n) → at ≡ a + length (told b n) → grouped_in s b n ≡ true
      → (y : List ℕ) (to : ℕ) → y ≡ sets x at (octets_of (s n).told) → to ≡ at + length (octets_of (s n).told)
      → (y ≡ sets o a (told b (n + 1))) × (to ≡ a + length (told b (n + 1)))
  put_in b n o a x at p q e y to f g =
      rw (told_in b n e, length-append) (f ∙ rw (p, q) (sym (sets_append o a (told b n) (octets_of (s n).told))), omega arith)

  -- a slot's description stands within its group
  pub told_room : (b : Bool) (n i : ℕ) → i < n → grouped_in s b i ≡ true → length (told b i) + length (octets_of (s i).told) ≤ length (told b n)
  told_room b zero i l e = absurd (not-suc-le-zero l)
  told_room b (suc n) i l e =
      ⊎_elim
      (λ q. rw (← q, length_suc b i, e) (omega arith))
      (λ k. let h = told_room b n i k e in omega (arith, length_suc b n))
      (eq-or-lt_of_le (le_of_suc-le-suc l))

  pub length_descriptions : (n : ℕ) → length (descriptions s n) ≡ length (told true n) + length (told false n)
  length_descriptions n = ap length (descriptions_groups n) ∙ length-append (told true n) (told false n)

  -- one slot more: its description is in one of the groups
  length_more : (n : ℕ) → length (descriptions s (suc n)) ≡ length (descriptions s n) + length (octets_of (s n).told)
  length_more n = rw (length_descriptions, length_descriptions n, length_suc true n, length_suc false n) (go (s n).new refl)
    where
      go : (b : Bool) → (s n).new ≡ b
          → length (told true n) + length (cond (grouped_in s true n) (octets_of (s n).told) []) + (length (told false n) + length (cond (grouped_in s false n) (octets_of (s n).told) []))
          ≡ length (told true n) + length (told false n) + length (octets_of (s n).told)
      go true e = rw e (omega arith)
      go false e = rw e (omega arith)

  -- at most two octets for each slot
  pub descriptions_few : (n : ℕ) → length (descriptions s n) ≤ 2 * n
  descriptions_few zero = rw (length_descriptions 0, told_none true, told_none false) (omega arith)
  descriptions_few (suc n) = let h = descriptions_few n in omega (arith, length_more n, octets_of_few (s n).told)
