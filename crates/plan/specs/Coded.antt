-- The code's entries, plans and answers as the documents' numbers and lists.
use Rattle.std.specs.Prelude.{⊤, List, map, Result, Ok, Err}
use Rattle.refusals.specs.Number.{number_of}
use Rattle.plan.specs.Paper.{Entry, Plan, Verdict}
use Rattle.plan.specs.declared.Entry.{Entry as EntryCode}
use Rattle.plan.specs.declared.Plan.{Plan as PlanCode}
use Rattle.plan.specs.declared.Fault.{Fault}

-- an entry as its numbers
abbrev pub entry_of : EntryCode → Entry
entry_of e = record { kind = e.kind; serial = e.serial.0; id = e.id.0; parameter = e.parameter }

-- the entries of an array
abbrev pub entries_of : List EntryCode → List Entry
entries_of es = map entry_of es

-- a plan as its count and entries
abbrev pub plan_of : PlanCode → Plan
plan_of p = record { count = p.count; entries = entries_of p.entries }

-- 0 for a good plan, or the refusal's number and the entry that comes with it
abbrev pub verdict_of : Result ⊤ Fault → Verdict
verdict_of (Ok x) = record { number = 0; entry = 0 }
verdict_of (Err f) = record { number = number_of f.refusal; entry = f.entry }
