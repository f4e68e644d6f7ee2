-- `cbtext::put_characters` meets its contract. The invariant: the characters so far are put.
use Rattle.laws.proofs.Base.{◌≡◌, map, take}
use Rattle.lines.specs.Paper.{PutLeft, all_behind}
use Rattle.cbtext.specs.Paper.{character}
use Rattle.cbtext.proofs.put_characters.Given as goal

abbrev pub invariant-loop-point : goal.invariant-loop-point
invariant-loop-point l =
    ◌≡◌ {A = PutLeft} (record { end = l.lines.end; text = l.lines.memory.now })
    (all_behind (map character (take l.point-index l.points)) l.initial.lines.end l.initial.lines.memory.now)
    × (l.lines.memory.ghost_name ≡ l.initial.lines.memory.ghost_name)
