-- The line of an intake call's answer, by the number that it returns.
use Rattle.laws.proofs.Base.{◌≡◌, sym, ◌∙◌, List, [], ℕ, ◌/◌, ◌%◌, ne_eqb}
use Rattle.block.specs.Paper.{Given}
use Rattle.block.specs.Paper as block
use Rattle.logs.specs.Inner.{Answers}
use Rattle.cbtext.specs.Paper.{page_line, line_of}

module _ {g : Given} {returned : ℕ} {p : List ℕ} (a : Answers g returned p) (n : ℕ) where
  pub line_complete : returned % 256 ≡ 0 → line_of n g ≡ page_line n p (returned / 256)
  line_complete e =
      let z = sym a.number ∙ e in
      rw (z, a.received, (a.complete block.page z).output)

  pub line_none : (returned % 256 ≡ 0 → ⊥) → line_of n g ≡ []
  line_none ne = rw (ne_eqb g.number 0 (λ z. ne (a.number ∙ z)))
