-- `collector::held_pages` meets its contract. The invariant: of the pages so far none is wrong, and those held are counted.
use Rattle.laws.proofs.Base.{◌≡◌, false, ◌≤◌}
use Rattle.laws.specs.Upto.{some_below, count}
use Rattle.collector.specs.Paper.{total, held, wrong}
use Rattle.collector.specs.Inner.{pages_in}
use Rattle.collector.proofs.Proper.{told_of}
use Rattle.collector.proofs.held_pages.Given as goal

abbrev pub invariant-loop-i : goal.invariant-loop-i
invariant-loop-i l =
    (some_below (wrong l.collector) l.i ≡ false) × (l.count ≡ count (held l.collector) l.i) × (l.count ≤ l.i)
    × (15 ≤ l.i → told_of (total l.collector) l.count ≡ pages_in l.collector)
