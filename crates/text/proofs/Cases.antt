-- What a refusal leaves, and each case of the reader's order past the text's length, on plain facts.
use Rattle.laws.proofs.Base.{◌≡◌, sym, ap, ◌∙◌, true, false, List, ℕ, ◌<◌, ◌≤◌, arith, length, eq-eqb, ne_eqb, lt-ltb, le-ltb}
use Rattle.sizes.specs.Paper.{whole_blocks}
use Rattle.page.specs.Paper.{octet, handed_number}
use Rattle.page.proofs.Received.{Handled, length_wrong, received_wrong, all_right, handled}
use Rattle.text.specs.Paper.{PageLeft, Reading, septets_received, shown, shown_text, reading_with, reading}

-- a refusal by n leaves the page p
abbrev pub unwritten : ℕ → List ℕ → PageLeft
unwritten n p = record { number = n; used = 0; page = p }

-- a refusal by n leaves the text t
abbrev pub unread : ℕ → List ℕ → Reading
unread n t = record { number = n; characters = 0; text = t }

module _ (p : List ℕ) (n : ℕ) (t : List ℕ) where
  module _ (e : length t ≡ 93) where
    pub reading_16 : (length p ≡ 88 → ⊥) → reading p n t ≡ unread 16 t
    unfolding reading_with
    reading_16 ne = simp (eq-eqb (length t) 93 e, ne_eqb (length p) 88 ne)

    module _ (k : length p ≡ 88) where
      pub reading_18 : whole_blocks n ≡ false → reading p n t ≡ unread 18 t
      unfolding reading_with
      reading_18 w = simp (eq-eqb (length t) 93 e, eq-eqb (length p) 88 k, w)

      module _ (w : whole_blocks n ≡ true) where
        pub reading_13 : 15 < octet p 5 → reading p n t ≡ unread 13 t
        unfolding reading_with
        reading_13 l = simp (eq-eqb (length t) 93 e, eq-eqb (length p) 88 k, w, lt-ltb 15 (octet p 5) l)

        pub reading_0 : octet p 5 ≤ 15 → reading p n t ≡ shown_text (shown (septets_received p n))
        unfolding reading_with
        reading_0 l = simp (eq-eqb (length t) 93 e, eq-eqb (length p) 88 k, w, le-ltb 15 (octet p 5) l)

  -- where the handing back is refused, so is reading, by the same number
  pub reading_refused : (m : ℕ) → length t ≡ 93 → m ≡ handed_number p n → (m ≡ 0 → ⊥) → reading p n t ≡ unread m t
  reading_refused m e q ne = go (handled p n)
    where
      go : Handled p n → reading p n t ≡ unread m t
      go (length_wrong l h) = reading_16 e l ∙ ap (λ (k : ℕ). unread k t) (sym (q ∙ h))
      go (received_wrong l w h) = reading_18 e l w ∙ ap (λ (k : ℕ). unread k t) (sym (q ∙ h))
      go (all_right l w h) = absurd (ne (q ∙ h))

-- where it is not refused, the page is whole and so are the blocks
pub handed_right : (p : List ℕ) (n : ℕ) → handed_number p n ≡ 0 → (length p ≡ 88) × (whole_blocks n ≡ true)
handed_right p n q = go (handled p n)
  where
    go : Handled p n → (length p ≡ 88) × (whole_blocks n ≡ true)
    go (length_wrong l h) = absurd (omega arith)
    go (received_wrong l w h) = absurd (omega arith)
    go (all_right l w h) = (l, w)
