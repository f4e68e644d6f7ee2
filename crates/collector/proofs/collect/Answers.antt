-- `collector::collect` meets its contract: each test refuses by its number, and what passes them is `take_page`'s.
use Rattle.laws.proofs.Base.{◌≡◌, sym, ◌∙◌, ◌≤◌, ◌<◌, arith}
use Rattle.sizes.proofs.Received.{whole_bounds}
use Rattle.collector.specs.Paper.{page_number, page_total}
use Rattle.collector.specs.Inner.{Holds}
use Rattle.collector.proofs.Settled.{pages_improper, pages_held}
use Rattle.collector.proofs.Refused.{collected_length, collected_improper, collected_15, collected_16, collected_18, collected_50, collected_right}
use Rattle.std.proofs.Common.{rules}
use Rattle.collector.proofs.collect.Goals as goal

pub returns-in_default : goal.returns-in_default
returns-in_default c =
    let a = c.args in
    sym (collected_length a.collector.now a.page.now a.received a.output.now (search rules))

pub returns-in_default-held_pages : goal.returns-in_default-held_pages
returns-in_default-held_pages c =
    let a = c.args in
    let kept : c.in-Some.collector.now ≡ a.collector.now = c.in-Some.ensures.cases.same in
    (λ i. record { number = 8; pages = 0; collector = c.clear.ensures i; output = a.output.now })
    ∙ sym (collected_improper a.collector.now a.page.now a.received a.output.now (search rules) (pages_improper a.collector.now (rw kept at c.in_default-held_pages.ensures)))

pub returns-in_default-as_mut_array : goal.returns-in_default-as_mut_array
returns-in_default-as_mut_array c =
    let a = c.args in
    let kept : c.in-Some.collector.now ≡ a.collector.now = c.in-Some.ensures.cases.same in
    let holds : Holds a.collector.now c.in-Some-held_pages.count = pages_held a.collector.now c.in-Some-held_pages.count (rw kept at c.in-Some-held_pages.ensures) in
    rw kept (sym (collected_15 a.collector.now a.page.now a.received a.output.now c.in-Some.ensures.cases.long holds.proper (search rules)))

pub returns-in_default-try_from : goal.returns-in_default-try_from
returns-in_default-try_from c =
    let a = c.args in
    let kept : c.in-Some.collector.now ≡ a.collector.now = c.in-Some.ensures.cases.same in
    let left : c.in-Some-as_mut_array.output.now ≡ a.output.now = c.in-Some-as_mut_array.ensures.cases.same in
    let holds : Holds a.collector.now c.in-Some-held_pages.count = pages_held a.collector.now c.in-Some-held_pages.count (rw kept at c.in-Some-held_pages.ensures) in
    rw (kept, left) (sym (collected_16 a.collector.now a.page.now a.received a.output.now c.in-Some.ensures.cases.long holds.proper c.in-Some-as_mut_array.ensures.cases.long (search rules)))

pub returns-then-not-whole_blocks : goal.returns-then-not-whole_blocks
returns-then-not-whole_blocks c =
    let a = c.args in
    let kept : c.in-Some.collector.now ≡ a.collector.now = c.in-Some.ensures.cases.same in
    let left : c.in-Some-as_mut_array.output.now ≡ a.output.now = c.in-Some-as_mut_array.ensures.cases.same in
    let holds : Holds a.collector.now c.in-Some-held_pages.count = pages_held a.collector.now c.in-Some-held_pages.count (rw kept at c.in-Some-held_pages.ensures) in
    rw (kept, left)
    (sym
    (collected_18 a.collector.now a.page.now a.received a.output.now c.in-Some.ensures.cases.long holds.proper c.in-Some-as_mut_array.ensures.cases.long (search rules)
    (sym c.whole_blocks.ensures ∙ c.if-not-whole_blocks.true)))

pub returns-then-total_of-number_of : goal.returns-then-total_of-number_of
returns-then-total_of-number_of c =
    let a = c.args in
    let kept : c.in-Some.collector.now ≡ a.collector.now = c.in-Some.ensures.cases.same in
    let left : c.in-Some-as_mut_array.output.now ≡ a.output.now = c.in-Some-as_mut_array.ensures.cases.same in
    let holds : Holds a.collector.now c.in-Some-held_pages.count = pages_held a.collector.now c.in-Some-held_pages.count (rw kept at c.in-Some-held_pages.ensures) in
    let same : c.in-Ok.page.now ≡ a.page.now = search rules in
    let over : page_total c.in-Ok.page.now < page_number c.in-Ok.page.now = omega (arith, c.total_of.ensures, c.number_of.ensures, c.if-total_of-number_of.true) in
    rw (kept, left)
    (sym
    (collected_50 a.collector.now a.page.now a.received a.output.now c.in-Some.ensures.cases.long holds.proper c.in-Some-as_mut_array.ensures.cases.long (search rules)
    (sym c.whole_blocks.ensures ∙ c.if-not-whole_blocks.false) (rw same at over)))

pub overflow_cast-received : goal.overflow_cast-received
overflow_cast-received c = omega (arith, whole_bounds c.args.received (sym c.whole_blocks.ensures ∙ c.if-not-whole_blocks.false))

pub take_page-requires : goal.take_page-requires
take_page-requires c =
    let bounds = whole_bounds c.args.received (sym c.whole_blocks.ensures ∙ c.if-not-whole_blocks.false) in
    let numbered : page_number c.in-Ok.page.now ≤ page_total c.in-Ok.page.now = omega (arith, c.total_of.ensures, c.number_of.ensures, c.if-total_of-number_of.false) in (
      record { received = omega (arith, bounds); numbered = numbered },
      pages_held c.in-Some.collector.now c.in-Some-held_pages.count c.in-Some-held_pages.ensures,
    )

pub returns : goal.returns
returns c =
    let a = c.args in
    let kept : c.in-Some.collector.now ≡ a.collector.now = c.in-Some.ensures.cases.same in
    let left : c.in-Some-as_mut_array.output.now ≡ a.output.now = c.in-Some-as_mut_array.ensures.cases.same in
    let holds : Holds a.collector.now c.in-Some-held_pages.count = pages_held a.collector.now c.in-Some-held_pages.count (rw kept at c.in-Some-held_pages.ensures) in
    let same : c.in-Ok.page.now ≡ a.page.now = search rules in
    let numbered : page_number c.in-Ok.page.now ≤ page_total c.in-Ok.page.now = omega (arith, c.total_of.ensures, c.number_of.ensures, c.if-total_of-number_of.false) in
    rw (kept, left, same) at c.take_page.ensures
    ∙ sym
    (collected_right a.collector.now a.page.now a.received a.output.now c.in-Some.ensures.cases.long holds.proper c.in-Some-as_mut_array.ensures.cases.long (search rules)
    (sym c.whole_blocks.ensures ∙ c.if-not-whole_blocks.false) (rw same at numbered))
