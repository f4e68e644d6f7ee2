-- `text_writer::look_at_each` meets its contract. The invariant: the characters passed are in the tables, and their septets are counted.
use Rattle.laws.proofs.Base.{◌∙◌, ◌≤◌, arith}
use Rattle.text_writer.proofs.Foreign.{passed_start, passed_foreign, passed_turn, one_most}
use Rattle.text_writer.proofs.look_at_each.Goals as goal

pub loop-code-init : goal.loop-code-init
loop-code-init c = passed_start _

pub returns-in_err-n : goal.returns-in_err-n
returns-in_err-n c =
    let l = c.loop-code in
    c.from_residual.ensures ∙ passed_foreign c.args.text.now l.code-index l.count l.invariant c.loop-code-test.true c.in_err-n.ensures

-- a slice's octets are fewer than 2 ^ 63, so twice its characters fit a word
pub overflow_add-count : goal.overflow_add-count
overflow_add-count c =
    let l = c.loop-code in
    let most : c.in_ok-n.n ≤ 2 = one_most _ _ c.in_ok-n.ensures in
    omega (arith, l.invariant.few, most, c.loop-code-test.true, c.well_formed.1.0.1)

pub loop-code-preserved : goal.loop-code-preserved
loop-code-preserved c =
    let l = c.loop-code in
    passed_turn c.args.text.now l.code-index l.count l.invariant c.loop-code-test.true _ c.in_ok-n.ensures
