-- `Text::put_hex` meets its contract. The invariant: the digits so far stand at their place, those left are the rest's, and the memory is the one that was lent.
use Rattle.laws.proofs.Base.{◌≡◌, sym, ◌∙◌, ◌+◌, ◌≤◌, ◌<◌, arith, length, leb-true, leb-false}
use Rattle.lines.specs.Paper.{hexadecimal}
use Rattle.lines.proofs.Behind.{behind_full}
use Rattle.lines.proofs.Numbers.{written_turn, written_end, length_hexadecimal}
use Rattle.lines.proofs.Text.put_hex.Goals as goal

pub returns-then-not-has_room-clause-put : goal.returns-then-not-has_room-clause-put
returns-then-not-has_room-clause-put c =
    let a = c.args in
    let l = a.self.now in
    let over : length l.memory.now < l.end + a.count = leb-false _ _ (sym c.has_room.ensures ∙ c.if-not-has_room.true) in
    let long : length l.memory.now < l.end + length (hexadecimal a.count a.number) = rw (length_hexadecimal a.count a.number) over in
    sym (behind_full (hexadecimal a.count a.number) l.end l.memory.now long)

pub loop-i-preserved : goal.loop-i-preserved
loop-i-preserved c =
    let a = c.args in
    let room : a.self.now.end + a.count ≤ length a.self.now.memory.now = leb-true _ _ (sym c.has_room.ensures ∙ c.if-not-has_room.false) in
    let l = c.loop-i in (
      rw c.hex_digit.ensures
          (written_turn a.number a.count a.self.now.end a.self.now.memory.now l.self.memory.now room l.i l.rest l.invariant.0 c.loop-i-test.true),
      l.invariant.1,
    )

pub returns-clause-put : goal.returns-clause-put
returns-clause-put c =
    let a = c.args in
    let room : a.self.now.end + a.count ≤ length a.self.now.memory.now = leb-true _ _ (sym c.has_room.ensures ∙ c.if-not-has_room.false) in
    let l = c.loop-i in
    let none : l.i ≡ 0 = omega (arith, c.loop-i-test.false) in
    written_end a.number a.count a.self.now.end a.self.now.memory.now l.self.memory.now room l.i l.rest l.invariant.0 none
