-- The code's headers, page names and answers as the paper's numbers.
use Rattle.std.specs.Prelude.{ℕ, ◌+◌, ◌*◌, List, ⊤, Result, Ok, Err}
use Rattle.std.specs.Borrow.{Bor}
use Rattle.refusals.specs.Number.{number_of}
use Rattle.refusals.specs.declared.Refusal.{Refusal}
use Rattle.page.specs.Paper.{Heading, Name, parameter_read, Part}
use Rattle.page.specs.declared.Header.{Header}
use Rattle.page.specs.declared.PageName.{PageName}

-- a header as its numbers
abbrev pub heading_of : Header → Heading
heading_of h = record { serial = h.serial.0; id = h.id.0; scheme = h.scheme; parameter = h.parameter }

-- a page's name as its numbers
abbrev pub name_of : PageName → Name
name_of p = record { serial = p.serial.0; id = p.id.0; parameter = p.parameter }

-- what tells a page as one number
unfoldable pub key_of : Name → ℕ
key_of n = parameter_read n.parameter * 0x100000000 + (n.id * 0x10000 + n.serial)

-- the number of an answer: 0 for done
abbrev pub number_of_handing : Result ⊤ Refusal → ℕ
number_of_handing (Ok x) = 0
number_of_handing (Err r) = number_of r

-- where a lent part lies, and what it holds
abbrev pub part_of : Bor (List ℕ) → Part
part_of x = record { region = x.ref_ptr.0; place = x.ref_ptr.1; octets = x.now }
