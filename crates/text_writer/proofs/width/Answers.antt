-- `text_writer::width` meets its contract: the tables' entries tell which septets there are.
use Rattle.laws.proofs.Base.{ap, ◌<◌, ◌≤◌, arith, length}
use Rattle.alphabet.specs.Paper.{septet_of, pair_septet}
use Rattle.text_writer.proofs.Foreign.{spelled_own, spelled_pair, spelled_none, found_one, found_none}
use Rattle.text_writer.proofs.width.Goals as goal

pub returns-then-of-lt128 : goal.returns-then-of-lt128
returns-then-of-lt128 c =
    let own : septet_of c.args.code < 128 = omega (arith, c.of.ensures, c.if-of-lt128.true) in
    found_one c.args.code 1 (ap length (spelled_own c.args.code own)) (λ z. omega (arith, z))

pub returns-then-pair_septet-lt128 : goal.returns-then-pair_septet-lt128
returns-then-pair_septet-lt128 c =
    let none : 128 ≤ septet_of c.args.code = omega (arith, c.of.ensures, c.if-of-lt128.false) in
    let paired : pair_septet c.args.code < 128 = omega (arith, c.pair_septet.ensures, c.if-pair_septet-lt128.true) in
    found_one c.args.code 2 (ap length (spelled_pair c.args.code none paired)) (λ z. omega (arith, z))

pub returns : goal.returns
returns c =
    let none : 128 ≤ septet_of c.args.code = omega (arith, c.of.ensures, c.if-of-lt128.false) in
    let absent : 128 ≤ pair_septet c.args.code = omega (arith, c.pair_septet.ensures, c.if-pair_septet-lt128.false) in
    found_none c.args.code (spelled_none c.args.code none absent)
