-- The code's kinds and places as document 01's.
use Rattle.std.specs.Prelude.{Result, Ok, Err}
use Rattle.refusals.specs.declared.Refusal.{Refusal}
use Rattle.refusals.specs.Number.{number_of}
use Rattle.block.specs.declared.Kind.{Kind as KindCode}
use Rattle.block.specs.declared.Kind.TheVariants.{Page, Schedule}
use Rattle.block.specs.declared.Place.{Place as PlaceCode}
use Rattle.block.specs.declared.Place.TheVariants.{First, Next}
use Rattle.block.specs.Paper.{Kind, page, schedule}
use Rattle.block.specs.Inner.{Place, none, first, next}

-- the two kinds
abbrev pub kind_of : KindCode → Kind
kind_of Page = page
kind_of Schedule = schedule

-- a refusal by its number
abbrev pub placed : Result PlaceCode Refusal → Place
placed (Err r) = none (number_of r)
placed (Ok (First k l)) = first (kind_of k) l
placed (Ok (Next l)) = next l
