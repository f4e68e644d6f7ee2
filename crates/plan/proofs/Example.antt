-- Plans by value with bad entries, computed.
use Rattle.laws.proofs.Base.{◌≡◌, refl, List, [], ◌∷◌, ◌++◌, ℕ, ◌-◌, length, replicate}
use Rattle.laws.specs.Search.{some, first_from}
use Rattle.plan.specs.Paper.{Entry, Plan, free, bad, lowest_fault, plan_number, plan_entry, plan_answer}

abbrev page : Entry
page = record { kind = 2; serial = 0x0010; id = 0x8001; parameter = 0x11 }

-- a kind that isn't known, without octets and with some
abbrev unknown : Entry
unknown = record { kind = 9; serial = 0; id = 0; parameter = 0 }

abbrev unknown_page : Entry
unknown_page = record { kind = 9; serial = 0x0010; id = 0x8001; parameter = 0x11 }

-- octets in an advised slot
abbrev stray : Entry
stray = record { kind = 1; serial = 0; id = 0; parameter = 0x11 }

-- a count, and entries that needn't be as many
abbrev counting : ℕ → List Entry → Plan
counting n es = record { count = n; entries = es ++ replicate (48 - length es) free }

-- a count over 48 is 32 whatever the entries hold
pub over_48 : plan_answer (counting 49 (unknown ∷ stray ∷ [])) ≡ record { number = 32; entry = 0 }
unfolding plan_number plan_entry
over_48 = refl

-- an entry past the count isn't named
pub past_the_count : plan_answer (counting 1 (page ∷ unknown ∷ [])) ≡ record { number = 0; entry = 0 }
unfolding plan_number plan_entry bad some
past_the_count = refl

-- of two bad entries the lower is named, whichever faults they have
pub stray_below : plan_answer (counting 3 (page ∷ stray ∷ unknown ∷ [])) ≡ record { number = 37; entry = 2 }
unfolding plan_number plan_entry lowest_fault bad some first_from
stray_below = refl

pub kind_below : plan_answer (counting 3 (page ∷ unknown ∷ stray ∷ [])) ≡ record { number = 36; entry = 2 }
unfolding plan_number plan_entry lowest_fault bad some first_from
kind_below = refl

-- a kind that isn't known is 36 whatever its octets
pub kind_with_octets : plan_answer (counting 2 (page ∷ unknown_page ∷ [])) ≡ record { number = 36; entry = 2 }
unfolding plan_number plan_entry lowest_fault bad some first_from
kind_with_octets = refl
