-- `logs::list_all` meets its contract. The invariant: state, number and text are those that the log so far leaves.
use Rattle.laws.proofs.Base.{◌≡◌, sym, ◌∙◌, length, arith}
use Rattle.logs.proofs.Turns.{going_start, goes_higher, turn_told, turn_going}
use Rattle.std.proofs.Common.{rules}
use Rattle.logs.proofs.list_all.Goals as goal

pub loop-number-init : goal.loop-number-init
loop-number-init g c = going_start _ _ c.requires (search rules) (search rules)

pub returns-then-not-write_chunk : goal.returns-then-not-write_chunk
returns-then-not-write_chunk g c =
    let listed = c.list.ensures.listed in
    turn_told c.loop-number.invariant c.loop-number-test.true c.read_chunk-chunk.ensures (listed.0 ∙ g.met.L.Listing.line_by_line _ _ _ _, listed.1, listed.2)

pub loop-number-smaller : goal.loop-number-smaller
loop-number-smaller g c =
    let on = c.write_chunk.ensures.0 c.if-not-write_chunk.false in
    let higher = goes_higher c.loop-number.invariant c.loop-number-test.true c.read_chunk-chunk.ensures on in
    omega arith

pub loop-number-preserved : goal.loop-number-preserved
loop-number-preserved g c =
    let state_size : length c.list.new.state ≡ 90 = search rules in
    let message_size : length c.list.new.message ≡ 88 = search rules in
    let listed = c.list.ensures.listed in
    turn_going c.loop-number.invariant c.loop-number-test.true c.read_chunk-chunk.ensures (listed.0 ∙ g.met.L.Listing.line_by_line _ _ _ _, listed.1, listed.2)
    (c.write_chunk.ensures.0 c.if-not-write_chunk.false) (state_size ∙ sym c.loop-number.invariant.state_size) (message_size ∙ sym c.loop-number.invariant.message_size) c.list.ensures.size
