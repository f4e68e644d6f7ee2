-- `collector::blank_pages` meets its contract. The invariant: in front stands what was there, then a blank page for each turn, then what was there.
use Rattle.laws.proofs.Base.{◌≡◌, ◌++◌, ◌-◌, length, take, drop}
use Rattle.collector.specs.Paper.{page_place, blanks}
use Rattle.collector.proofs.blank_pages.Given as goal

abbrev pub invariant-loop-i : goal.invariant-loop-i
invariant-loop-i l = (l.memory ≡ take (page_place l.from) l.initial.memory ++ (blanks (l.i - l.from) ++ drop (page_place l.i) l.initial.memory)) × (length l.memory ≡ 1340)
