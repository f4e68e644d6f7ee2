-- `board_held::is_held` meets its contract: the shift divides by the power of two that the definition has.
use Rattle.laws.proofs.Base.{sym}
use Rattle.board_held.proofs.Sets.{held_low, held_high, held_bit}
use Rattle.std.proofs.Common.{rules}
use Rattle.board_held.proofs.is_held.Goals as goal

pub returns-then-slot-lt1 : goal.returns-then-slot-lt1
returns-then-slot-lt1 c = sym (held_low _ _ c.if-slot-lt1.true)

pub returns-then-slot-gt-SLOTS : goal.returns-then-slot-gt-SLOTS
returns-then-slot-gt-SLOTS c = sym (held_high _ _ c.if-slot-gt-SLOTS.true)

pub returns : goal.returns
returns c = sym (held_bit _ _ (record { some = search rules; low = search rules }))
