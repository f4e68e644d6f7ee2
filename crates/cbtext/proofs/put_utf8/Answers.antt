-- `cbtext::put_utf8` meets its contract: the tests that led to each answer decide those of `utf8`.
use Rattle.cbtext.proofs.Characters.{utf8_one, utf8_two, utf8_three}
use Rattle.cbtext.proofs.put_utf8.Goals as goal

pub returns-then-point-lt128-clause-put : goal.returns-then-point-lt128-clause-put
returns-then-point-lt128-clause-put c = rw (utf8_one c.args.point c.if-point-lt128.true) c.put_octet.ensures.put

pub returns-then-point-lt2048-clause-put : goal.returns-then-point-lt2048-clause-put
returns-then-point-lt2048-clause-put c = rw (utf8_two c.args.point c.if-point-lt128.false c.if-point-lt2048.true) c.put.ensures.put

pub returns-clause-put : goal.returns-clause-put
returns-clause-put c = rw (utf8_three c.args.point c.if-point-lt2048.false) c.put-2.ensures.put
