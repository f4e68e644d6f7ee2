-- How much of a memory a file fills: its name, and what was read of it.
use Rattle.std.specs.Prelude.{ℕ, Option, None, Some, Result, Ok, Err}
use Rattle.files.specs.declared.Opened.{Opened}
use Rattle.files.specs.declared.ReadFault.{ReadFault}

-- the octets that an opened file's name fills
abbrev pub named : {S : Type 0} → Option (Opened S) → ℕ
named (Some o) = o.length
named None = 0

-- the octets that were read, before a fault too
abbrev pub filled : Result ℕ ReadFault → ℕ
filled (Ok n) = n
filled (Err f) = f.octets
