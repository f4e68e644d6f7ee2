-- Which test of the handing back answers.
use Rattle.laws.proofs.Base.{◌≡◌, true, false, List, ℕ, ◌≤◌, arith, eqb, length, eq-eqb, ne_eqb, eqb-true, eqb-false}
use Rattle.sizes.specs.Paper.{whole_blocks}
use Rattle.sizes.proofs.Received.{whole_bounds}
use Rattle.laws.specs.Ruled.{ruled}
use Rattle.laws.proofs.Tests.{true_or_false}
use Rattle.page.specs.Paper.{Part, handing, handed_number, empty_part, content_part, handed_part}

module _ {A : Type 0} (by : ℕ → A) (x : A) (p : List ℕ) (n : ℕ) where
  pub refused_length : (length p ≡ 88 → ⊥) → ruled by (handing p n) x ≡ by 16
  refused_length ne = simp (ne_eqb (length p) 88 ne)

  pub refused_received : length p ≡ 88 → whole_blocks n ≡ false → ruled by (handing p n) x ≡ by 18
  refused_received e w = simp (eq-eqb (length p) 88 e, w)

  pub handed : length p ≡ 88 → whole_blocks n ≡ true → ruled by (handing p n) x ≡ x
  handed e w = simp (eq-eqb (length p) 88 e, w)

-- where nothing is refused, the content received is handed back
pub handed_content : (p : Part) (n : ℕ) → length p.octets ≡ 88 → whole_blocks n ≡ true → handed_part p n ≡ content_part p n
unfolding handed_part
handed_content p n e w = handed (λ m. empty_part p) (content_part p n) p.octets n e w

-- the number given, and what it says
pub data Handled (p : List ℕ) (n : ℕ) : Type 0 where
  length_wrong : (length p ≡ 88 → ⊥) → handed_number p n ≡ 16 → Handled p n
  received_wrong : length p ≡ 88 → whole_blocks n ≡ false → handed_number p n ≡ 18 → Handled p n
  all_right : length p ≡ 88 → whole_blocks n ≡ true → handed_number p n ≡ 0 → Handled p n

pub handled : (p : List ℕ) (n : ℕ) → Handled p n
unfolding handed_number
handled p n =
    true_or_false (eqb (length p) 88)
    (λ e.
    let l = eqb-true (length p) 88 e in
    true_or_false (whole_blocks n)
    (λ f. all_right l f (handed (λ m. m) 0 p n l f))
    (λ f. received_wrong l f (refused_received (λ m. m) 0 p n l f)))
    (λ e. let ne = eqb-false (length p) 88 e in length_wrong ne (refused_length (λ m. m) 0 p n ne))

-- where the number is 0, the page is whole, what was received lies in it, and that is handed back
pub handed_bounds : (p : List ℕ) (n : ℕ) → handed_number p n ≡ 0 → (length p ≡ 88) × (22 ≤ n) × (n ≤ 88)
handed_bounds p n e =
    elim (handled p n) [
      | length_wrong l h ↦ absurd (omega (arith, e, h))
      | received_wrong l w h ↦ absurd (omega (arith, e, h))
      | all_right l w h ↦ let b = whole_bounds n w in (l, b.0, b.1)
    ]

pub handed_all : (p : Part) (n : ℕ) → handed_number p.octets n ≡ 0 → handed_part p n ≡ content_part p n
handed_all p n e =
    elim (handled p.octets n) [
      | length_wrong l h ↦ absurd (omega (arith, e, h))
      | received_wrong l w h ↦ absurd (omega (arith, e, h))
      | all_right l w h ↦ handed_content p n l w
    ]

-- where it is another, an empty part is
pub handed_none : (p : Part) (n : ℕ) → (handed_number p.octets n ≡ 0 → ⊥) → handed_part p n ≡ empty_part p
unfolding handed_part
handed_none p n ne =
    elim (handled p.octets n) [
      | length_wrong l h ↦ refused_length (λ m. empty_part p) (content_part p n) p.octets n l
      | received_wrong l w h ↦ refused_received (λ m. empty_part p) (content_part p n) p.octets n l w
      | all_right l w h ↦ absurd (ne h)
    ]
