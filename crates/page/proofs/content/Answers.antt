-- `page::content` meets its contract: what is received lies within a page that is not refused.
use Rattle.laws.proofs.Base.{sym, ◌∙◌, arith}
use Rattle.refusals.proofs.Inverse.{number_of_positive}
use Rattle.page.specs.Coded.{part_of}
use Rattle.page.proofs.Received.{handed_bounds, handed_all, handed_none}
use Rattle.page.proofs.content.Goals as goal

pub slice_bounds-result-count : goal.slice_bounds-result-count
slice_bounds-result-count c = let b = handed_bounds _ _ (sym c.in-Ok.ensures) in omega (arith, b)

pub slice_bounds-result-start : goal.slice_bounds-result-start
slice_bounds-result-start c = let b = handed_bounds _ _ (sym c.in-Ok.ensures) in omega (arith, b)

pub slice_bounds-result-end : goal.slice_bounds-result-end
slice_bounds-result-end c = let b = handed_bounds _ _ (sym c.in-Ok.ensures) in omega (arith, b)

pub returns-in-Ok : goal.returns-in-Ok
returns-in-Ok c = sym (handed_all (part_of c.args.page) c.args.received (sym c.in-Ok.ensures))

pub returns-in-Err : goal.returns-in-Err
returns-in-Err c =
    sym (handed_none (part_of c.args.page) c.args.received (λ e. number_of_positive c.in-Err.field-0 (c.in-Err.ensures ∙ e)))
