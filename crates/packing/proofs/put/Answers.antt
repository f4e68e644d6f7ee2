-- `packing::put` meets its contract: after so many turns the first digits are written, and the rest of the number is left.
use Rattle.laws.proofs.Base.{refl, ap, ◌∙◌, ℕ, ◌<◌, ◌/◌, arith, pow-zero, div-one, length, length-set}
use Rattle.laws.specs.Radix.{digits}
use Rattle.laws.proofs.Radix.{digits_store, div_more}
use Rattle.packing.proofs.put.Goals as goal

pub loop-digit-init : goal.loop-digit-init
unfolding digits
loop-digit-init c = (refl, rw (pow-zero, div-one), refl)

pub loop-digit-preserved : goal.loop-digit-preserved
loop-digit-preserved c =
    let l = c.loop-digit in
    let a = c.args in
    let o = a.out.now in
    let h : l.digit-index < length o = omega arith in (
      simp length-set l.invariant.0,
      ap (λ (r : ℕ). r / a.base) l.invariant.1 ∙ div_more a.base l.digit-index a.word,
      rw (l.invariant.1, l.invariant.2) (digits_store a.base l.digit-index a.word o h),
    )
