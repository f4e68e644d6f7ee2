-- What the code says of a slot as document 01's numbers.
use Rattle.plan_slots.specs.Paper.{Planned}
use Rattle.plan_slots.specs.declared.Planned.{Planned as PlannedCode}

-- what is said of a slot
abbrev pub planned_of : PlannedCode → Planned
planned_of v = record { kind = v.kind; low = v.low; lowest = v.lowest; fresh = v.fresh }
