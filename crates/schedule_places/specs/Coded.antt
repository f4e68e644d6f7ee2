-- The code's places as a list of numbers, beside the paper's answer.
use Rattle.std.specs.Prelude.{Result, Ok, Err}
use Rattle.refusals.specs.declared.Refusal.{Refusal}
use Rattle.refusals.specs.Number.{number_of}
use Rattle.schedule_places.specs.declared.Placed.{Placed as PlacedCode}
use Rattle.schedule_places.specs.Inner.{Placed, unplaced}

-- 0 with Begin, End and the places, or the refusal's number
abbrev pub placed_of : Result PlacedCode Refusal → Placed
placed_of (Ok p) = record { read = record { number = 0; begin = p.span.begin; end = p.span.end }; places = p.places }
placed_of (Err r) = unplaced (number_of r)
