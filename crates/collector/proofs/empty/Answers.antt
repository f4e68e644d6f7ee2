-- `collector::empty` meets its contract.
use Rattle.laws.proofs.Base.{◌≡◌, ap, ◌∙◌, List, ℕ, ◌++◌, length}
use Rattle.collector.specs.Paper.{blanks}
use Rattle.collector.proofs.Places.{copied_front}
use Rattle.std.proofs.Common.{rules}
use Rattle.collector.proofs.empty.Goals as goal

pub returns : goal.returns
returns c =
    let size : length c.args.front ≡ 5 = search rules in
    c.blank_pages.ensures
    ∙ ap (λ (x : List ℕ). x ++ blanks 15) (copied_front c.args.front _ c.copy.new.to 5 size c.copy.ensures)
