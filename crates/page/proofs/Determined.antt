-- Two answers that meet a public contract of this crate are equal.
use Rattle.std.specs.Prelude.{⊤, Result, Ok, Err}
use Rattle.laws.proofs.Base.{◌≡◌, refl, sym, ap, List, ℕ, ◌+◌, ◌*◌}
use Rattle.laws.specs.Determined.{Determined}
use Rattle.laws.proofs.Determined.{determined, determined_by}
use Rattle.refusals.proofs.Inverse.{number_of_injective, number_of_positive}
use Rattle.refusals.specs.declared.Refusal.{Refusal}
use Rattle.page.specs as defs
use defs.Paper.{Part, header, header_octets, parameter_read, handed_part, handed_number}
use defs.Coded.{key_of, heading_of, name_of, number_of_handing}
use defs.declared.Header.{Header}
use defs.declared.PageName.{PageName}

pub determined_joined : (high low : ℕ) → Determined (λ (r : ℕ). r ≡ high * 256 + low)
determined_joined high low = determined

pub determined_read_header : (octets : List ℕ) → Determined (λ (r : Header). heading_of r ≡ header octets)
determined_read_header octets =
    determined_by heading_of
    (λ r s e i. record { serial = record { 0 = (e i).serial }; id = record { 0 = (e i).id }; scheme = (e i).scheme; parameter = (e i).parameter })

pub determined_header_octets : (heading : Header) → Determined (λ (r : List ℕ). r ≡ header_octets (heading_of heading))
determined_header_octets heading = determined

pub determined_parameter_read : (parameter : ℕ) → Determined (λ (r : ℕ). r ≡ parameter_read parameter)
determined_parameter_read parameter = determined

pub determined_key : (name : PageName) → Determined (λ (r : ℕ). r ≡ key_of (name_of name))
determined_key name = determined

handing_injective : (r s : Result ⊤ Refusal) → number_of_handing r ≡ number_of_handing s → r ≡ s
handing_injective (Ok x) (Ok y) e = refl
handing_injective (Ok x) (Err b) e = absurd (number_of_positive b (sym e))
handing_injective (Err a) (Ok y) e = absurd (number_of_positive a e)
handing_injective (Err a) (Err b) e = ap Err (number_of_injective a b e)

pub determined_content_answer : (page : List ℕ) (received : ℕ) → Determined (λ (r : Result ⊤ Refusal). number_of_handing r ≡ handed_number page received)
determined_content_answer page received = determined_by number_of_handing handing_injective

-- the part is known by where it lies and what it holds
pub determined_content : (page : Part) (received : ℕ) → Determined (λ (r : Part). r ≡ handed_part page received)
determined_content page received = determined
