-- The message as it is put together.
use Rattle.laws.proofs.Base.{◌≡◌, sym, ap, ◌∙◌, true, false, List, [], ◌∷◌, ◌++◌, ℕ, ◌+◌, ◌≤◌, arith, length, take, replicate, length-append, sets}
use Rattle.laws.proofs.Upto.{each_length}
use Rattle.schedule.specs.Paper.{Shown}
use Rattle.sender_message.specs.Paper.{descriptions, new_bits, bitmap_of, used_part, message_of}
use Rattle.sender_message.proofs as own
use own.Groups.{told, descriptions_groups, length_descriptions}
use own.Padded.{sets_append, sets_padded}

module _ (b : ℕ) (s : ℕ → Shown) (n : ℕ) where
  pub bitmap_length : length (bitmap_of s n) ≡ 6
  bitmap_length = each_length (λ (j : ℕ). new_bits s n j 8) 6

  -- 8 and those of the descriptions
  pub used_length : length (used_part b s n) ≡ 8 + length (descriptions s n)
  unfolding used_part
  used_length = let parts = length-append (bitmap_of s n) (descriptions s n) in omega (arith, bitmap_length)

  -- the header, the descriptions of the new slots and those of the others, one after the other
  pub message_put : (blank x y z : List ℕ) (from at to : ℕ)
      → x ≡ sets blank 0 ((b ∷ n ∷ []) ++ bitmap_of s n) → from ≡ 8 → y ≡ sets x from (told s true n) → at ≡ from + length (told s true n)
      → z ≡ sets y at (told s false n) → to ≡ at + length (told s false n)
      → (z ≡ sets blank 0 (used_part b s n)) × (to ≡ 8 + length (descriptions s n))
  unfolding used_part
  message_put blank x y z from at to p k q r e f =
      let head : List ℕ = b ∷ n ∷ bitmap_of s n in
      let eight : 0 + length head ≡ 8 = omega (arith, bitmap_length) in
      let groups : List ℕ = told s true n ++ told s false n in
      let whole : sets blank 0 (used_part b s n) ≡ sets (sets blank 0 head) 8 groups =
      rw (descriptions_groups s n) (sets_append blank 0 head groups ∙ ap (λ (k : ℕ). sets (sets blank 0 head) k groups) eight) in (
        e ∙ rw (q, r, k, p) (sym (sets_append (sets blank 0 head) 8 (told s true n) (told s false n)) ∙ sym whole),
        omega (arith, length_descriptions s n),
      )

  -- and its first 88 octets, where it has no more
  pub message_cut : length (descriptions s n) ≤ 80 → take 88 (sets (replicate 104 43) 0 (used_part b s n)) ≡ message_of b s n
  message_cut few = sets_padded (used_part b s n) (omega (arith, used_length))
