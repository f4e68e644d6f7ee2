-- A refusal is known by its number.
use Rattle.laws.proofs.Base.{◌≡◌, refl, sym, ap, ◌∙◌, cond, List, [], ◌∷◌, ℕ, arith, eqb}
use Rattle.refusals.specs as defs
use defs.declared.Refusal.{Refusal}
use defs.declared.Refusal.TheVariants.{PieceLength, Discriminator, ReservedCode, NullCode, NotNext, StateImproper, TextLength, NotInAlphabet, EndsInCr, Scheme}
use defs.declared.Refusal.TheVariants.{PageParameter, OutputLength, MessageLength, UsedOctets, ReceivedOctets, ScheduleType, BeginOrEnd, NewPastEnd, DescriptionPastReceived}
use defs.declared.Refusal.TheVariants.{RepeatOfNoFirst, PlanMark, PlanVersion, PlanLength, DescriptionsTooLong, PlanEmpty, PlanKind, PlanStray, Untrue, SlotNumber, WantedCount, PageOverTotal}
use defs.Number.{number_of}

-- the first of some refusals that has a number
abbrev sought : ℕ → List Refusal → Refusal
sought n [] = WantedCount
sought n (r ∷ rs) = cond (eqb n (number_of r)) r (sought n rs)

-- the refusal that has a number, and some refusal for any other number
abbrev pub refusal_of : ℕ → Refusal
refusal_of n =
    sought n
    (PieceLength ∷ Discriminator ∷ ReservedCode ∷ NullCode ∷ NotNext ∷ StateImproper
    ∷ TextLength ∷ NotInAlphabet ∷ EndsInCr ∷ Scheme ∷ PageParameter ∷ OutputLength ∷ MessageLength ∷ UsedOctets ∷ ReceivedOctets
    ∷ ScheduleType ∷ BeginOrEnd ∷ NewPastEnd ∷ DescriptionPastReceived ∷ RepeatOfNoFirst
    ∷ PlanMark ∷ PlanVersion ∷ PlanLength ∷ DescriptionsTooLong ∷ PlanEmpty ∷ PlanKind ∷ PlanStray ∷ Untrue ∷ SlotNumber ∷ WantedCount ∷ PageOverTotal ∷ [])

-- `refusal_of` undoes `number_of`
pub refusal_of_number_of : (r : Refusal) → refusal_of (number_of r) ≡ r
refusal_of_number_of PieceLength = refl
refusal_of_number_of Discriminator = refl
refusal_of_number_of ReservedCode = refl
refusal_of_number_of NullCode = refl
refusal_of_number_of NotNext = refl
refusal_of_number_of StateImproper = refl
refusal_of_number_of TextLength = refl
refusal_of_number_of NotInAlphabet = refl
refusal_of_number_of EndsInCr = refl
refusal_of_number_of Scheme = refl
refusal_of_number_of PageParameter = refl
refusal_of_number_of OutputLength = refl
refusal_of_number_of MessageLength = refl
refusal_of_number_of UsedOctets = refl
refusal_of_number_of ReceivedOctets = refl
refusal_of_number_of ScheduleType = refl
refusal_of_number_of BeginOrEnd = refl
refusal_of_number_of NewPastEnd = refl
refusal_of_number_of DescriptionPastReceived = refl
refusal_of_number_of RepeatOfNoFirst = refl
refusal_of_number_of PlanMark = refl
refusal_of_number_of PlanVersion = refl
refusal_of_number_of PlanLength = refl
refusal_of_number_of DescriptionsTooLong = refl
refusal_of_number_of PlanEmpty = refl
refusal_of_number_of PlanKind = refl
refusal_of_number_of PlanStray = refl
refusal_of_number_of Untrue = refl
refusal_of_number_of SlotNumber = refl
refusal_of_number_of WantedCount = refl
refusal_of_number_of PageOverTotal = refl

-- two refusals of one number are one refusal
pub number_of_injective : (r s : Refusal) → number_of r ≡ number_of s → r ≡ s
number_of_injective r s e = sym (refusal_of_number_of r) ∙ ap refusal_of e ∙ refusal_of_number_of s

-- a number that `refusal_of` does not keep, as 0, 1 and 7, is no refusal's
pub not_listed : (r : Refusal) (n : ℕ) → (number_of (refusal_of n) ≡ n → ⊥) → number_of r ≡ n → ⊥
not_listed r n h e = h (ap number_of (ap refusal_of (sym e) ∙ refusal_of_number_of r) ∙ e)

-- no refusal has the number of done
pub number_of_positive : (r : Refusal) → number_of r ≡ 0 → ⊥
number_of_positive r = not_listed r 0 (omega arith)
