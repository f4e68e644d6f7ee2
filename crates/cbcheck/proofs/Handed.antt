-- The line of an intake call's answer, by the number that it returns.
use Rattle.laws.proofs.Base.{◌≡◌, sym, ◌∙◌, List, [], ℕ, ◌/◌, ◌%◌, ne_eqb}
use Rattle.block.specs.Paper.{Given}
use Rattle.block.specs.Paper as block
use Rattle.checker.specs.Paper.{SlotsChecked}
use Rattle.lines.specs.Paper.{flat}
use Rattle.logs.specs.Inner.{Answers}
use Rattle.cbcheck.specs.Paper.{line, line_of}

module _ (k : List ℕ → ℕ → SlotsChecked) {g : Given} {returned : ℕ} {m : List ℕ} (a : Answers g returned m) (n : ℕ) where
  pub line_complete : returned % 256 ≡ 7 → line_of k n g ≡ flat (line n (k m (returned / 256)))
  line_complete e =
      let z = sym a.number ∙ e in
      rw (z, a.received, (a.complete block.schedule z).output)

  pub line_none : (returned % 256 ≡ 7 → ⊥) → line_of k n g ≡ []
  line_none ne = rw (ne_eqb g.number 7 (λ z. ne (a.number ∙ z)))
