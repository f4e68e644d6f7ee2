-- The writer's answer as the paper's numbers, with what it leaves in lent memory.
use Rattle.std.specs.Prelude.{ℕ, List, Result, Ok, Err}
use Rattle.refusals.specs.declared.Refusal.{Refusal}
use Rattle.refusals.specs.Number.{number_of}
use Rattle.page.specs.Paper.{Heading}
use Rattle.page.specs.declared.Serial.{Serial}
use Rattle.page.specs.declared.MessageId.{MessageId}
use Rattle.text.specs.Paper.{PageLeft}

-- what the writer is told of the header
abbrev pub heading_with : Serial → MessageId → ℕ → ℕ → Heading
heading_with serial id scheme parameter = record { serial = serial.0; id = id.0; scheme = scheme; parameter = parameter }

-- a writer's answer and the page that it leaves
abbrev pub writing_of : Result ℕ Refusal → List ℕ → PageLeft
writing_of (Ok u) p = record { number = 0; used = u; page = p }
writing_of (Err r) p = record { number = number_of r; used = 0; page = p }
