-- `board_held::Held::with` meets its contract: a power of two is added where its bit is clear.
use Rattle.laws.proofs.Base.{sym, ◌∙◌}
use Rattle.board_held.proofs.Sets.{enter_low, enter_high, enter_held, enter_shifted, enter_fits}
use Rattle.std.proofs.Common.{rules}
use Rattle.board_held.proofs.Held.with.Goals as goal

pub returns-then-slot-lt1 : goal.returns-then-slot-lt1
returns-then-slot-lt1 c = sym (enter_low _ _ c.if-slot-lt1.true)

pub returns-then-slot-gt-SLOTS : goal.returns-then-slot-gt-SLOTS
returns-then-slot-gt-SLOTS c = sym (enter_high _ _ c.if-slot-gt-SLOTS.true)

pub returns-then-is_held : goal.returns-then-is_held
returns-then-is_held c =
    let a = c.args in
    sym (enter_held a.self.0 a.slot (record { some = search rules; low = search rules }) (sym c.is_held.ensures ∙ c.if-is_held.true))

pub overflow_add-result : goal.overflow_add-result
overflow_add-result c =
    let a = c.args in
    record { fits = enter_fits a.self.0 a.slot (record { some = search rules; low = search rules }) (sym c.is_held.ensures ∙ c.if-is_held.false) (search rules) }

pub returns : goal.returns
returns c =
    let a = c.args in
    sym (enter_shifted a.self.0 a.slot (record { some = search rules; low = search rules }) (sym c.is_held.ensures ∙ c.if-is_held.false))
