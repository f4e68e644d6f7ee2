-- `sender::telling` meets its contract. The invariant: the slots passed are told by what the plans say of them.
use Rattle.laws.proofs.Base.{◌≡◌, ℕ, ◌<◌, length, get_or}
use Rattle.plan_slots.specs.Coded.{planned_of}
use Rattle.plan_slots.specs.Inner.{nothing}
use Rattle.sender_message.specs.Coded.{shown_in}
use Rattle.sender.specs.Inner.{shown_by}
use Rattle.sender.proofs.Tells.{shown15}
use Rattle.sender.proofs.telling.Given as goal

abbrev pub invariant-loop-i : goal.invariant-loop-i
invariant-loop-i l =
    (length l.slots ≡ 48) × ((k : ℕ) → k < l.i → shown_in l.slots k ≡ shown15 (shown_by (planned_of (get_or l.said-items k nothing)) k))
