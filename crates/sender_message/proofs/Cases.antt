-- The last refusal of a message, and the message, on plain facts.
use Rattle.laws.proofs.Base.{◌≡◌, List, ℕ, ◌≤◌, ◌<◌, length, eq-eqb, lt-ltb, le-ltb, le-leb}
use Rattle.schedule.specs.Paper.{Shown}
use Rattle.sender_message.specs.Paper.{descriptions, unwritten, written, write_message}

module _ (b : ℕ) (s : ℕ → Shown) (n : ℕ) (o : List ℕ) where
  module _ (e : length o ≡ 88) where
    module _ (f : 1 ≤ b) (g : b ≤ n) (h : n ≤ 48) where
      pub message_34 : 80 < length (descriptions s n) → write_message b s n o ≡ unwritten o 34
      unfolding write_message
      message_34 l = rw (eq-eqb (length o) 88 e, le-leb 1 b f, le-leb b n g, le-leb n 48 h, lt-ltb 80 _ l)

      pub message_0 : length (descriptions s n) ≤ 80 → write_message b s n o ≡ written b s n
      unfolding write_message
      message_0 l = rw (eq-eqb (length o) 88 e, le-leb 1 b f, le-leb b n g, le-leb n 48 h, le-ltb 80 _ l)
