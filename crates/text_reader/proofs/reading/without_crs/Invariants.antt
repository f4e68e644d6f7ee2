-- `text_reader::reading::without_crs` meets its contract. The invariant: from n on to the end there are CRs.
use Rattle.laws.proofs.Base.{◌≡◌, ℕ, ◌≤◌, ◌<◌, get_or}
use Rattle.text.specs.Paper.{cr}
use Rattle.text_reader.proofs.reading.without_crs.Given as goal

abbrev pub invariant-loop-n : goal.invariant-loop-n
invariant-loop-n l = (k : ℕ) → l.n ≤ k → k < l.end → get_or l.text k 0 ≡ cr
