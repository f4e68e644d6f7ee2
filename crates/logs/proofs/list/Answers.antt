-- `logs::list` meets its contract. The invariant: the text so far and the lines of the pieces to come are the listing.
use Rattle.laws.proofs.Base.{◌≡◌, sym, ◌∙◌, refl, ◌*◌, arith, length, drop, length-drop}
use Rattle.std.proofs.Common.{rules}
use Rattle.logs.proofs.Complete.{answers}
use Rattle.logs.proofs.Listed.{listed_start, listed_end, taken, line_room, listed_turn}
use Rattle.logs.proofs.Pieces.{front_at}
use Rattle.logs.proofs.list.Goals as goal

pub loop-k-init : goal.loop-k-init
loop-k-init g c = listed_start (search rules) (search rules) c.requires g.met.L.Listing.fits

pub put_line-requires : goal.put_line-requires
put_line-requires g c =
    let l = c.loop-k.invariant in
    let front = front_at (c.loop-k.k * 23) _ _ (omega arith) refl c.piece_end.ensures in
    ((_, answers _ _ (taken l _ c.cb_intake-answer.ensures)), line_room l front)

pub loop-k-preserved : goal.loop-k-preserved
loop-k-preserved g c =
    let l = c.loop-k.invariant in
    let front = front_at (c.loop-k.k * 23) _ _ (omega arith) (omega arith) c.piece_end.ensures in
    let t = taken l _ c.cb_intake-answer.ensures in
    listed_turn l front t c.cb_intake-answer.auto.state c.cb_intake-answer.auto.output c.put_line.ensures.size (c.put_line.ensures.put _ (answers _ _ t))

pub returns-clause-listed : goal.returns-clause-listed
returns-clause-listed g c =
    let none : length (drop (c.loop-k.k * 23) c.args.log.now) ≡ 0 = rw (length-drop (c.loop-k.k * 23) c.args.log.now) (omega arith) in
    let e = listed_end c.loop-k.invariant none in
    (e.0 ∙ sym (g.met.L.Listing.line_by_line _ _ _ _), e.1, e.2)

pub returns-clause-size : goal.returns-clause-size
returns-clause-size g c = c.loop-k.invariant.text_size ∙ sym c.requires.1
