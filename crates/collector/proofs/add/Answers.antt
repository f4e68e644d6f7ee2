-- `collector::add` meets its contract: with one page more than were held, the message is whole or it goes on.
use Rattle.laws.proofs.Base.{◌≡◌, ap, ◌∙◌, List, ℕ, ◌++◌, ◌-◌, take, arith}
use Rattle.laws.proofs.Upto.{count_le}
use Rattle.collector.specs.Paper.{page_number, page_place, total, held, put, blanks}
use Rattle.collector.proofs.Places.{number_some, total_most}
use Rattle.collector.proofs.Settled.{few, added_last, added_kept}
use Rattle.std.proofs.Common.{rules}
use Rattle.collector.proofs.add.Goals as goal

pub overflow_sub-number_of : goal.overflow_sub-number_of
overflow_sub-number_of c = omega (arith, number_some c.args.page.now, c.number_of.ensures)

pub put_page-requires : goal.put_page-requires
put_page-requires c = omega (arith, few c.args.page.now c.requires.0.numbered, c.number_of.ensures)

pub overflow_add-count : goal.overflow_add-count
overflow_add-count c =
    let m = c.args.collector.now in
    omega (arith, count_le (held m) (total m), c.requires.1.counted, c.requires.1.same, total_most c.args.page.now)

pub hand_out-requires : goal.hand_out-requires
hand_out-requires c = omega (arith, total_most c.args.page.now, c.total_of-total.ensures)

pub returns-then-count-total : goal.returns-then-count-total
returns-then-count-total c =
    let a = c.args in
    let stands : c.put_page.new.collector ≡ put a.collector.now (page_number a.page.now - 1) a.page.now a.received = rw c.number_of.ensures at c.put_page.ensures in
    let h = c.hand_out in
    let t = c.total_of-total in
    added_last a.collector.now a.page.now a.received a.count a.output.now (search rules) (search rules) c.requires.0 c.requires.1
    t.result h.new.collector h.new.output t.ensures (omega (arith, c.if-count-total.true)) h.ensures.0
    (h.ensures.1 ∙ ap (λ (x : List ℕ). take (page_place t.result) x ++ blanks (15 - t.result)) stands)

pub returns : goal.returns
returns c =
    let a = c.args in
    let stands : c.put_page.new.collector ≡ put a.collector.now (page_number a.page.now - 1) a.page.now a.received = rw c.number_of.ensures at c.put_page.ensures in
    let t = c.total_of-total in
    added_kept a.collector.now a.page.now a.received a.count a.output.now (search rules) (search rules) c.requires.0 c.requires.1
    t.result c.put_page.new.collector t.ensures (λ e. omega (arith, c.if-count-total.false, e)) stands
