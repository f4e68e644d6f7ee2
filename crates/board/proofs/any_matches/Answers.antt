-- `board::any_matches` meets its contract. The invariant: none of the identifiers so far matches.
use Rattle.laws.proofs.Base.{◌≡◌, refl, sym, ℕ, ◌%◌, ◌<◌, arith, length, length-take, get_or, get_or-take}
use Rattle.laws.specs.Search.{some}
use Rattle.board.specs.Paper.{is_wanted}
use Rattle.board.proofs.Matching.{matches_found, matches_turn}
use Rattle.board.proofs.any_matches.Goals as goal

pub loop-one-init : goal.loop-one-init
unfolding is_wanted some
loop-one-init c = refl

pub returns-then-one-id : goal.returns-then-one-id
returns-then-one-id c =
    let l = c.loop-one in
    let inside : l.one-index < length c.args.wanted.now = omega (arith, length-take {A = ℕ}) in
    let matches : get_or c.args.wanted.now l.one-index 0 % 0x8000 ≡ c.args.id % 0x8000 = grind (arith, get_or-take, length-take, c.if-one-id.true) in
    sym (matches_found c.args.id c.args.wanted.now l.one-index inside matches)

pub loop-one-preserved : goal.loop-one-preserved
loop-one-preserved c =
    let l = c.loop-one in
    let inside : l.one-index < length c.args.wanted.now = omega (arith, length-take {A = ℕ}) in
    let other : get_or c.args.wanted.now l.one-index 0 % 0x8000 ≡ c.args.id % 0x8000 → ⊥ = grind (arith, get_or-take, length-take, c.if-one-id.false) in
    matches_turn c.args.id c.args.wanted.now l.one-index inside other l.invariant
