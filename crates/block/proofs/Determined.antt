-- Answers that meet a contract of `block` are equal.
use Rattle.laws.proofs.Base.{◌≡◌, refl, sym, ap, ◌∙◌, Bool, List, ℕ}
use Rattle.std.specs.Prelude.{Result, Ok, Err}
use Rattle.refusals.specs.declared.Refusal.{Refusal}
use Rattle.refusals.proofs.Inverse.{refusal_of, refusal_of_number_of}
use Rattle.block.specs as defs
use defs.declared.Kind.{Kind as KindCode}
use defs.declared.Kind.TheVariants.{Page, Schedule}
use defs.declared.Place.{Place as PlaceCode}
use defs.declared.Place.TheVariants.{First, Next}
use defs.Paper.{Kind, page, schedule, kind_number, proper}
use defs.Inner.{Place, none, first, next, place_of, state_with}
use defs.Coded.{kind_of, placed}

pub determined_is_proper : (kind taken : ℕ) (octets : List ℕ) (r s : Bool) → r ≡ proper (state_with kind taken octets) → s ≡ proper (state_with kind taken octets) → r ≡ s
determined_is_proper kind taken octets r s a b = a ∙ sym b

-- the code's kind and place by the paper's
abbrev kind_from : Kind → KindCode
kind_from page = Page
kind_from schedule = Schedule

kind_from_kind_of : (k : KindCode) → kind_from (kind_of k) ≡ k
kind_from_kind_of Page = refl
kind_from_kind_of Schedule = refl

abbrev place_from : Place → Result PlaceCode Refusal
place_from (none n) = Err (refusal_of n)
place_from (first k l) = Ok (First (kind_from k) l)
place_from (next l) = Ok (Next l)

place_from_placed : (r : Result PlaceCode Refusal) → place_from (placed r) ≡ r
place_from_placed (Err r) = ap Err (refusal_of_number_of r)
place_from_placed (Ok (First k l)) = ap (λ (x : KindCode). Ok (First x l)) (kind_from_kind_of k)
place_from_placed (Ok (Next l)) = refl

pub determined_place_of : (taken : ℕ) (p : List ℕ) (r s : Result PlaceCode Refusal) → placed r ≡ place_of taken p → placed s ≡ place_of taken p → r ≡ s
determined_place_of taken p r s a b = sym (place_from_placed r) ∙ ap place_from (a ∙ sym b) ∙ place_from_placed s

pub determined_kind_number : (kind : KindCode) (r s : ℕ) → r ≡ kind_number (kind_of kind) → s ≡ kind_number (kind_of kind) → r ≡ s
determined_kind_number kind r s a b = a ∙ sym b
