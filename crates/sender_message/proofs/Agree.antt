-- A message depends only on what is told of its slots, so it tells the first slots of an array as it does a part that ends there.
use Rattle.laws.proofs.Base.{◌≡◌, refl, sym, ◌∙◌, Bool, true, false, List, ℕ, zero, suc, ◌+◌, ◌*◌, ◌≤◌, ◌<◌, arith, length, take, get_or-take, length-take-le, ltb, ltb-true}
use Rattle.laws.specs.Upto.{each}
use Rattle.schedule.specs.declared.Slot.{Slot}
use Rattle.schedule.specs.Inner.{zeroed}
use Rattle.schedule.specs.Paper.{Shown}
use Rattle.sender_message.specs.Paper.{descriptions, new_bit, new_bits, bitmap_of, used_part, message_of, write_message}
use Rattle.sender_message.specs.Coded.{shown_in}
use Rattle.sender_message.proofs.Groups.{told, told_none, told_suc, descriptions_groups}

told_agree : (s t : ℕ → Shown) (b : Bool) (n : ℕ) → ((i : ℕ) → i < n → s i ≡ t i) → told s b n ≡ told t b n
told_agree s t b zero h = told_none s b ∙ sym (told_none t b)
told_agree s t b (suc n) h =
    rw (told_suc s b n, told_suc t b n, told_agree s t b n (λ i l. h i (omega arith)), h n (omega arith))

module _ (s t : ℕ → Shown) (n : ℕ) (h : (i : ℕ) → i < n → s i ≡ t i) where
  pub descriptions_agree : descriptions s n ≡ descriptions t n
  descriptions_agree = rw (descriptions_groups s n, descriptions_groups t n, told_agree s t true n h, told_agree s t false n h)

  new_bit_agree : (i : ℕ) → new_bit s n i ≡ new_bit t n i
  new_bit_agree i = go (ltb i n) refl
    where
      go : (b : Bool) → ltb i n ≡ b → new_bit s n i ≡ new_bit t n i
      go true e = rw (h i (ltb-true i n e))
      go false e = rw e

  new_bits_agree : (j k : ℕ) → new_bits s n j k ≡ new_bits t n j k
  unfolding new_bits
  new_bits_agree j zero = refl
  new_bits_agree j (suc k) = rw (new_bits_agree j k, new_bit_agree (8 * j + k))

  bitmap_agree : bitmap_of s n ≡ bitmap_of t n
  bitmap_agree = λ x. each (λ (j : ℕ). new_bits_agree j 8 x) 6

  pub used_agree : (b : ℕ) → used_part b s n ≡ used_part b t n
  unfolding used_part
  used_agree b = rw (bitmap_agree, descriptions_agree)

  message_agree : (b : ℕ) → message_of b s n ≡ message_of b t n
  message_agree b = rw (used_agree b)

  pub write_agree : (b : ℕ) (o : List ℕ) → write_message b s n o ≡ write_message b t n o
  unfolding write_message
  write_agree b o = rw (descriptions_agree, message_agree b)

module _ (slots : List Slot) (n : ℕ) (few : n ≤ length slots) where
  part : (i : ℕ) → i < n → shown_in (take n slots) i ≡ shown_in slots i
  part i l = rw (get_or-take n slots i zeroed l)

  pub part_length : length (take n slots) ≡ n
  part_length = length-take-le n slots few

  pub descriptions_part : descriptions (shown_in (take n slots)) (length (take n slots)) ≡ descriptions (shown_in slots) n
  descriptions_part = rw (part_length) (descriptions_agree (shown_in (take n slots)) (shown_in slots) n part)

  pub used_part_part : (b : ℕ) → used_part b (shown_in (take n slots)) (length (take n slots)) ≡ used_part b (shown_in slots) n
  used_part_part b = rw (part_length) (used_agree (shown_in (take n slots)) (shown_in slots) n part b)
