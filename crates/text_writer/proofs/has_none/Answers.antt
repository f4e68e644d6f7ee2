-- `text_writer::has_none` meets its contract: the flag says whether one stands among the characters passed.
use Rattle.laws.proofs.Base.{◌≡◌, refl, sym, ◌∙◌, arith, length, take-length}
use Rattle.laws.specs.Search.{some}
use Rattle.text_writer.proofs.Foreign.{odd_some}
use Rattle.text_writer.proofs.has_none.Goals as goal

pub loop-code-init : goal.loop-code-init
unfolding some
loop-code-init c = refl

pub returns : goal.returns
returns c =
    let l = c.loop-code in
    let t = c.args.text.now in
    let e : l.code-index ≡ length t = omega arith in
    l.invariant ∙ rw (e, take-length t) (sym (odd_some t))
