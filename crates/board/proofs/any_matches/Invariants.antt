-- `board::any_matches` meets its contract. The invariant: none of the identifiers so far matches.
use Rattle.laws.proofs.Base.{◌≡◌, false}
use Rattle.board.specs.Paper.{is_wanted}
use Rattle.board.specs.Inner.{counted}
use Rattle.board.proofs.any_matches.Given as goal

abbrev pub invariant-loop-one : goal.invariant-loop-one
invariant-loop-one l = is_wanted (counted l.one-index l.wanted) l.id ≡ false
