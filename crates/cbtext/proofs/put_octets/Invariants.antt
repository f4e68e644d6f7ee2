-- `cbtext::put_octets` meets its contract. The invariant: the octets so far are put.
use Rattle.laws.proofs.Base.{◌≡◌, map, take}
use Rattle.lines.specs.Paper.{PutLeft, hexadecimal, all_behind}
use Rattle.cbtext.proofs.put_octets.Given as goal

abbrev pub invariant-loop-octet : goal.invariant-loop-octet
invariant-loop-octet l =
    ◌≡◌ {A = PutLeft} (record { end = l.lines.end; text = l.lines.memory.now })
    (all_behind (map (hexadecimal 2) (take l.octet-index l.content)) l.initial.lines.end l.initial.lines.memory.now)
    × (l.lines.memory.ghost_name ≡ l.initial.lines.memory.ghost_name)
