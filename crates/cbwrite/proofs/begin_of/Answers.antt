-- `cbwrite::begin_of` meets its contract. The invariant: the number so far is capped, and the octets left are read on from it.
use Rattle.laws.proofs.Base.{sym, ◌∙◌, arith}
use Rattle.cbwrite.proofs.Typed.{typed_none, typed_some, typed_end, typed_low, typed_high, typed_digit}
use Rattle.std.proofs.Common.{rules}
use Rattle.cbwrite.proofs.begin_of.Goals as goal

pub returns-then-digits-eq0 : goal.returns-then-digits-eq0
returns-then-digits-eq0 c = typed_none _ c.if-digits-eq0.true

pub loop-digit-init : goal.loop-digit-init
loop-digit-init c = (search rules, typed_some _ c.if-digits-eq0.false)

pub returns-then-digit-lt48 : goal.returns-then-digit-lt48
returns-then-digit-lt48 c = sym (c.loop-digit.invariant.1 ∙ typed_low _ _ _ c.loop-digit-test.true c.if-digit-lt48.true)

pub returns-then-digit-gt57 : goal.returns-then-digit-gt57
returns-then-digit-gt57 c = sym (c.loop-digit.invariant.1 ∙ typed_high _ _ _ c.loop-digit-test.true c.if-digit-lt48.false c.if-digit-gt57.true)

pub loop-digit-preserved : goal.loop-digit-preserved
loop-digit-preserved c = (
  omega (arith, c.min-number.ensures),
  rw c.min-number.ensures (c.loop-digit.invariant.1 ∙ typed_digit _ _ _ c.loop-digit-test.true c.if-digit-lt48.false c.if-digit-gt57.false),
)

pub returns : goal.returns
returns c = sym (c.loop-digit.invariant.1 ∙ typed_end _ _ _ c.loop-digit-test.false)
