-- What a line tells of a text: the statement.
use Rattle.std.specs.Prelude.{◌≡◌, List, ℕ}
use Rattle.cbtext.specs.Paper.{character, joined}

-- DECISIONS, Escapes in a line: two texts that are told alike are the same text
abbrev pub TextsApart : Type 0
TextsApart = (s t : List ℕ) → joined character s ≡ joined character t → s ≡ t
