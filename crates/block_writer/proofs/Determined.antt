-- Answers that meet the contract of `block_writer` are equal, lent memory included.
use Rattle.laws.proofs.Base.{◌≡◌, refl, sym, ap, ◌∙◌, cond, List, ℕ, eqb, ne_eqb}
use Rattle.std.specs.Prelude.{⊤, Result, Ok, Err}
use Rattle.refusals.specs.declared.Refusal.{Refusal}
use Rattle.refusals.specs.Number.{number_of}
use Rattle.refusals.proofs.Inverse.{refusal_of, refusal_of_number_of, number_of_positive}
use Rattle.block.specs.declared.Kind.{Kind}
use Rattle.block.specs.Coded.{kind_of}
use Rattle.block_writer.specs as defs
use defs.Paper.{BlocksLeft, written_blocks}
use defs.Coded.{sent_of}

-- the writer's answer by its number
abbrev sent_from : ℕ → Result ⊤ Refusal
sent_from n = cond (eqb n 0) (Ok tt) (Err (refusal_of n))

sent_from_sent_of : (r : Result ⊤ Refusal) (o : List ℕ) → sent_from (sent_of r o).number ≡ r
sent_from_sent_of (Ok x) o = refl
sent_from_sent_of (Err r) o = rw (ne_eqb (number_of r) 0 (number_of_positive r)) (ap Err (refusal_of_number_of r))

sent_output : (r : Result ⊤ Refusal) (o : List ℕ) → (sent_of r o).output ≡ o
sent_output (Ok x) o = refl
sent_output (Err r) o = refl

pub determined_write_blocks : (m : List ℕ) (k : Kind) (used : ℕ) (out : List ℕ) (r s : Result ⊤ Refusal) (o q : List ℕ)
    → sent_of r o ≡ written_blocks m (kind_of k) used out → sent_of s q ≡ written_blocks m (kind_of k) used out → (r ≡ s) × (o ≡ q)
determined_write_blocks m k used out r s o q a b =
    let e = a ∙ sym b in (
      sym (sent_from_sent_of r o) ∙ ap (λ (x : BlocksLeft). sent_from x.number) e ∙ sent_from_sent_of s q,
      sym (sent_output r o) ∙ ap (λ (x : BlocksLeft). x.output) e ∙ sent_output s q,
    )
