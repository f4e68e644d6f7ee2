-- The block writer's answer as document 01's number.
use Rattle.std.specs.Prelude.{⊤, Result, Ok, Err, List, ℕ}
use Rattle.refusals.specs.declared.Refusal.{Refusal}
use Rattle.refusals.specs.Number.{number_of}
use Rattle.block_writer.specs.Paper.{BlocksLeft}

-- 0 for done, or the refusal's number; and the output
abbrev pub sent_of : Result ⊤ Refusal → List ℕ → BlocksLeft
sent_of (Ok x) out = record { number = 0; output = out }
sent_of (Err r) out = record { number = number_of r; output = out }
