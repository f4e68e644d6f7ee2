-- `board_held::entered_under_on` meets its contract: the entry is told from the places of the descriptions.
use Rattle.laws.proofs.Base.{sym, ap, ◌∙◌, false, arith}
use Rattle.board_held.specs.Paper.{entry_for}
use Rattle.board_held.specs.Coded.{lent_schedule}
use Rattle.board_held.proofs.Cases.{entered_untold, tells_unknown}
use Rattle.board_held.proofs.Telling.{Telling, refused_answers, telling, tells_by, entered_slot}
use Rattle.board_held.proofs.entered_under_on.Goals as goal

pub returns-then-not-known : goal.returns-then-not-known
returns-then-not-known c =
    let a = c.args in
    let s = lent_schedule a.known a.message.now a.received in
    sym (entered_untold s a.slot (tells_unknown s a.slot (c.if-not-known.true)))

pub returns-in_default : goal.returns-in_default
returns-in_default c =
    let a = c.args in
    sym (entered_untold (lent_schedule a.known a.message.now a.received) a.slot
    (tells_by a.message.now a.received a.slot _ c.in_default.ensures a.known false (c.if-not-known.false) (refused_answers _ a.slot)))

pub returns-then-not-tells_of : goal.returns-then-not-tells_of
returns-then-not-tells_of c =
    let a = c.args in
    sym (entered_untold (lent_schedule a.known a.message.now a.received) a.slot
    (tells_by a.message.now a.received a.slot _ c.in-Ok.ensures a.known false (c.if-not-known.false)
    (sym c.tells_of.ensures ∙ c.if-not-tells_of.true)))

pub bounds-places-slot : goal.bounds-places-slot
bounds-places-slot c =
    let tells : let a = c.args in Telling a.message.now a.received a.slot c.in-Ok.found.places = let a = c.args in telling a.message.now a.received a.slot _ c.in-Ok.ensures (sym c.tells_of.ensures ∙ c.if-not-tells_of.false) in
    omega (arith, tells.low)

pub returns : goal.returns
returns c =
    let a = c.args in
    c.entry_for.ensures
    ∙ ap (entry_for a.slot) c.told_at-description.ensures
    ∙ entered_slot a.known a.message.now a.received a.slot _ c.in-Ok.ensures
    (c.if-not-known.false) (sym c.tells_of.ensures ∙ c.if-not-tells_of.false)
