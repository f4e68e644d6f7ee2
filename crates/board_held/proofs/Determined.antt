-- Answers that meet a contract of `board_held` are equal.
use Rattle.laws.proofs.Base.{◌≡◌, Bool, List, ℕ}
use Rattle.laws.specs.Determined.{Determined}
use Rattle.laws.proofs.Determined.{determined, determined_by}
use Rattle.schedule.specs.declared.Description.{Description}
use Rattle.std.specs.Prelude.{Result}
use Rattle.refusals.specs.declared.Refusal.{Refusal}
use Rattle.schedule.specs.declared.Span.{Span}
use Rattle.schedule.specs.Coded.{told_of, read_of}
use Rattle.board_held.specs as defs
use defs.declared.Held.{Held}
use defs.declared.Schedule.{Schedule}
use defs.Paper.{is_held, enter, entry_for, entered_under}
use defs.Inner.{answers}
use defs.Coded.{schedule_of, lent_schedule}

pub determined_is_held : (held : Held) (slot : ℕ) → Determined (λ (r : Bool). r ≡ is_held held.0 slot)
determined_is_held held slot = determined

pub determined_with : (held : Held) (slot : ℕ) → Determined (λ (r : Held). r.0 ≡ enter held.0 slot)
determined_with held slot = determined_by (λ (r : Held). r.0) (λ r s e i. record { 0 = e i })

pub determined_tells_of : (answer : Result Span Refusal) (slot : ℕ) → Determined (λ (r : Bool). r ≡ answers (read_of answer) slot)
determined_tells_of answer slot = determined

pub determined_entry_for : (slot : ℕ) (description : Description) → Determined (λ (r : ℕ). r ≡ entry_for slot (told_of description))
determined_entry_for slot description = determined

pub determined_entered_under_on : (known : Bool) (m : List ℕ) (received slot : ℕ) → Determined (λ (r : ℕ). r ≡ entered_under (lent_schedule known m received) slot)
determined_entered_under_on known m received slot = determined

pub determined_entered_under : (schedule : Schedule) (slot : ℕ) → Determined (λ (r : ℕ). r ≡ entered_under (schedule_of schedule) slot)
determined_entered_under schedule slot = determined
