-- `alphabet::look_up` meets its contract. The invariant: the key is not among the rows passed.
use Rattle.laws.proofs.Base.{◌≡◌, ◌-◌, drop}
use Rattle.laws.specs.Search.{lookup}
use Rattle.alphabet.specs.Inner.{column}
use Rattle.alphabet.proofs.look_up.Given as goal

abbrev pub invariant-loop-row : goal.invariant-loop-row
invariant-loop-row l = lookup (column l.by) (column (1 - l.by)) l.rows l.key l.other ≡ lookup (column l.by) (column (1 - l.by)) (drop l.row-index l.rows) l.key l.other
