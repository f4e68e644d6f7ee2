-- Whether a program is to work.
use Rattle.std.specs.Prelude.{Bool, true, false}
use Rattle.arguments.specs.declared.Asked.{Asked}
use Rattle.arguments.specs.declared.Asked.TheVariants.{Work, Help, Usage}

-- DECISIONS, Arguments: help or usage is told in place of the work
abbrev pub works : Asked → Bool
works Work = true
works Help = false
works Usage = false
