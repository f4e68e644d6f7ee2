-- `Text::put_octet` meets its contract: an octet that fits is stored at its place.
use Rattle.laws.proofs.Base.{sym, [], ◌∷◌, arith}
use Rattle.lines.proofs.Behind.{behind_full, behind_octet}
use Rattle.lines.proofs.Text.put_octet.Goals as goal

pub returns-then-self-at-clause-put : goal.returns-then-self-at-clause-put
returns-then-self-at-clause-put c =
    let l = c.args.self.now in
    sym (behind_full (c.args.octet ∷ []) l.end l.memory.now (omega (arith, c.if-self-at.true)))

pub returns-clause-put : goal.returns-clause-put
returns-clause-put c = behind_octet _ _ _ (omega (arith, c.if-self-at.false))
