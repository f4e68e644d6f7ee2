-- `collector::take_page` meets its contract: the page begins its message, is passed over, or is added.
use Rattle.laws.proofs.Base.{◌≡◌, sym, ap, ◌∙◌, true, List, ℕ, ◌-◌, arith, length}
use Rattle.collector.specs.Paper.{page_number, received_of, is_of, settled, moved}
use Rattle.collector.proofs.Places.{number_some}
use Rattle.collector.proofs.Settled.{few, begun_adds, kept_begun, kept_passed, own_adds}
use Rattle.std.proofs.Common.{rules}
use Rattle.collector.proofs.take_page.Goals as goal

pub add-requires : goal.add-requires
add-requires c =
    let a = c.args in
    rw c.begin.ensures (c.requires.0, begun_adds a.collector.now a.page.now a.received (search rules))

pub returns-then-not-is_of : goal.returns-then-not-is_of
returns-then-not-is_of c =
    let a = c.args in
    let other = sym c.is_of.ensures ∙ c.if-not-is_of.true in
    rw c.begin.ensures at c.add.ensures
    ∙ ap (λ (x : List ℕ). moved (settled x) a.output.now) (sym (kept_begun a.collector.now a.page.now a.received (search rules) other))

pub overflow_sub-number_of : goal.overflow_sub-number_of
overflow_sub-number_of c = omega (arith, number_some c.args.page.now, c.number_of.ensures)

pub bounds-collector-number_of : goal.bounds-collector-number_of
bounds-collector-number_of c = let all_places : length c.args.collector.now ≡ 1340 = search rules in omega (arith, few c.args.page.now c.requires.0.numbered, c.number_of.ensures, all_places)

pub returns-then-collector-number_of-ne0 : goal.returns-then-collector-number_of-ne0
returns-then-collector-number_of-ne0 c =
    let memory : List ℕ = c.args.collector.now in
    let page : List ℕ = c.args.page.now in
    let its_own : is_of memory page ≡ true = sym c.is_of.ensures ∙ c.if-not-is_of.false in
    let looked_at : received_of memory (c.number_of.result - 1) ≡ received_of memory (page_number page - 1) = ap (λ (k : ℕ). received_of memory (k - 1)) c.number_of.ensures in
    kept_passed memory page c.args.received c.args.count c.args.output.now c.requires.1 its_own (λ e. omega (arith, c.if-collector-number_of-ne0.true, looked_at, e))

pub add-requires-2 : goal.add-requires-2
add-requires-2 c =
    let memory : List ℕ = c.args.collector.now in
    let page : List ℕ = c.args.page.now in
    let its_own : is_of memory page ≡ true = sym c.is_of.ensures ∙ c.if-not-is_of.false in
    let looked_at : received_of memory (c.number_of.result - 1) ≡ received_of memory (page_number page - 1) = ap (λ (k : ℕ). received_of memory (k - 1)) c.number_of.ensures in
    (c.requires.0, own_adds memory page c.args.received c.args.count c.args.output.now c.requires.1 its_own (omega (arith, looked_at)))
