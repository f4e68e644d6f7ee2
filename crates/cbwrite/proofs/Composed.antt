-- The cases of `composed`, by what the schedule writer answers.
use Rattle.std.specs.Prelude.{Result, Ok, Err}
use Rattle.laws.proofs.Base.{◌≡◌, sym, ap, ◌∙◌, List, ℕ, replicate, ne_eqb}
use Rattle.refusals.specs.Number.{number_of}
use Rattle.refusals.proofs.Inverse.{number_of_positive}
use Rattle.block.specs.Paper.{schedule}
use Rattle.block_writer.specs.Paper.{written_blocks}
use Rattle.plan.specs.Paper.{Plan}
use Rattle.plan.specs.declared.Fault.{Fault}
use Rattle.sender.specs.Paper.{ScheduleLeft, write_schedule}
use Rattle.sender.specs.Coded.{sending_of}
use Rattle.cbwrite.specs.Paper.{sent_by, composed}

module _ (c p : Plan) (b : ℕ) (o m : List ℕ) {answer : Result ℕ Fault} (wrote : sending_of answer m ≡ write_schedule c p b (replicate 88 0)) where
  -- what the output is by a known answer
  by : (known : Result ℕ Fault) → answer ≡ known → sent_by (sending_of known m).left o ≡ composed c p b o
  unfolding composed
  by known told = ap (λ (w : ScheduleLeft). sent_by w.left o) (ap (λ (a : Result ℕ Fault). sending_of a m) (sym told) ∙ wrote)

  pub written_composed : {used : ℕ} → answer ≡ Ok used → written_blocks m schedule used o ≡ composed c p b o
  written_composed {used} told = by (Ok used) told

  pub refused_composed : {why : Fault} → answer ≡ Err why → record { number = number_of why.refusal; output = o } ≡ composed c p b o
  refused_composed {why} told = (rw (ne_eqb (number_of why.refusal) 0 (number_of_positive why.refusal)) at (by (Err why) told))
