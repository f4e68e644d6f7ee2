-- Entries of an array as their numbers.
use Rattle.laws.proofs.Base.{◌≡◌, List, ℕ, ◌<◌, length, get_or, list_get_d_map}
use Rattle.plan.specs as defs
use defs.Paper.{free}
use defs.Coded.{entry_of, entries_of}
use defs.declared.Entry.{Entry as EntryCode}

-- the entry that stands for one past the end of an array
abbrev pub none : EntryCode
none = record { kind = 0; serial = record { 0 = 0 }; id = record { 0 = 0 }; parameter = 0 }

module _ (es : List EntryCode) where
  -- an entry of an array as its numbers
  pub entry_at : (i : ℕ) → i < length es → get_or (entries_of es) i free ≡ entry_of (get_or es i none)
  entry_at i k = list_get_d_map entry_of es i none
