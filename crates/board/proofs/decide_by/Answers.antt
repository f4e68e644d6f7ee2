-- `board::decide_by` meets its contract: each answer is told from the places of the descriptions.
use Rattle.laws.proofs.Base.{◌≡◌, sym, ◌∙◌, Bool, true, false, ◌-◌, arith}
use Rattle.board_held.specs.Coded.{lent_schedule}
use Rattle.board_held.proofs.Cases.{tells_unknown}
use Rattle.board_held.proofs.Telling.{refused_answers, telling, tells_by}
use Rattle.board.specs.Paper.{decide}
use Rattle.board.specs.Inner.{counted}
use Rattle.board.proofs.Cases.{decided_untold}
use Rattle.schedule.specs.Inner.{told_by}
use Rattle.board.proofs.Deciding.{decided_slots}
use Rattle.board.proofs.Matching.{part_reads}
use Rattle.std.proofs.Common.{rules}
use Rattle.board.proofs.decide_by.Goals as goal

pub returns-then-not-known : goal.returns-then-not-known
returns-then-not-known c =
    let a = c.args in
    let s = lent_schedule a.known a.message.now a.received in
    decided_untold s a.slot (counted a.count a.ids.now) a.held.0 (record { some = search rules; low = search rules }) (search rules)
    (tells_unknown s a.slot (c.if-not-known.true))

pub returns-in_default : goal.returns-in_default
returns-in_default c =
    let a = c.args in
    let s = lent_schedule a.known a.message.now a.received in
    decided_untold s a.slot (counted a.count a.ids.now) a.held.0 (record { some = search rules; low = search rules }) (search rules)
    (tells_by a.message.now a.received a.slot _ c.in_default.ensures a.known false (c.if-not-known.false) (refused_answers _ a.slot))

pub returns-then-not-tells_of : goal.returns-then-not-tells_of
returns-then-not-tells_of c =
    let a = c.args in
    let s = lent_schedule a.known a.message.now a.received in
    decided_untold s a.slot (counted a.count a.ids.now) a.held.0 (record { some = search rules; low = search rules }) (search rules)
    (tells_by a.message.now a.received a.slot _ c.in-Ok.ensures a.known false (c.if-not-known.false)
    (sym c.tells_of.ensures ∙ c.if-not-tells_of.true))

pub reads_for-requires : goal.reads_for-requires
reads_for-requires c =
    let g = telling c.args.message.now c.args.received c.args.slot _ c.in-Ok.ensures (sym c.tells_of.ensures ∙ c.if-not-tells_of.false) in
    let few = c.requires (omega arith) in
    (omega (arith, g.some, g.low), g.repeats)

pub returns-then-reads_for : goal.returns-then-reads_for
returns-then-reads_for c =
    let answered : (b : Bool) → c.reads_for.result ≡ b → let a = c.args in record { number = 0; read = b } ≡ decide (lent_schedule a.known a.message.now a.received) a.slot (counted a.count a.ids.now) a.held.0 = λ b e. let a = c.args in decided_slots a.known a.message.now a.received a.slot _ c.in-Ok.ensures (c.if-not-known.false) (sym c.tells_of.ensures ∙ c.if-not-tells_of.false) (counted a.count a.ids.now) a.held.0 c.reads_for.result b (record { some = search rules; low = search rules }) (search rules) (c.reads_for.ensures ∙ part_reads a.count a.ids.now (told_by a.message.now c.in-Ok.found.places) a.held.0 (told_by a.message.now c.in-Ok.found.places (a.slot - 1))) e in
    answered true c.if-reads_for.true

pub returns : goal.returns
returns c =
    let answered : (b : Bool) → c.reads_for.result ≡ b → let a = c.args in record { number = 0; read = b } ≡ decide (lent_schedule a.known a.message.now a.received) a.slot (counted a.count a.ids.now) a.held.0 = λ b e. let a = c.args in decided_slots a.known a.message.now a.received a.slot _ c.in-Ok.ensures (c.if-not-known.false) (sym c.tells_of.ensures ∙ c.if-not-tells_of.false) (counted a.count a.ids.now) a.held.0 c.reads_for.result b (record { some = search rules; low = search rules }) (search rules) (c.reads_for.ensures ∙ part_reads a.count a.ids.now (told_by a.message.now c.in-Ok.found.places) a.held.0 (told_by a.message.now c.in-Ok.found.places (a.slot - 1))) e in
    answered false c.if-reads_for.false
