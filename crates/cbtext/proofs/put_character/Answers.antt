-- `cbtext::put_character` meets its contract: a character has a letter or is put in UTF-8.
use Rattle.cbtext.proofs.Characters.{character_lettered, character_unlettered}
use Rattle.cbtext.proofs.put_character.Goals as goal

pub returns-in_default-clause-put : goal.returns-in_default-clause-put
returns-in_default-clause-put c = rw (character_unlettered c.args.point c.in_default.ensures) c.put_utf8.ensures.put

pub returns-clause-put : goal.returns-clause-put
returns-clause-put c = rw (character_lettered c.args.point _ c.in-Some.ensures) c.put.ensures.put
