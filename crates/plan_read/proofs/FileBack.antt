-- A file written from good entries reads back as them.
use Rattle.laws.proofs.Base.{◌≡◌, refl, ◌∙◌, List, [], ◌∷◌, ℕ, ◌+◌, ◌*◌, ◌/◌, ◌%◌, div-add-mod', arith, length}
use Rattle.plan.specs.Paper.{Entry}
use Rattle.plan_read.specs as defs
use defs.Paper.{entry_in, entries_in, entries_octets, file_of}
use defs.Claims.{FileBack}
use Rattle.plan_read.proofs.Answers.{front_good, front_passes, filled_number}

length_octets : (es : List Entry) → length (entries_octets es) ≡ 6 * length es
unfolding entries_octets
length_octets [] = refl
length_octets (e ∷ es) = omega (arith, length_octets es)

entry_back : (e : Entry) (rest : List ℕ) → entry_in (e.kind ∷ e.serial / 256 ∷ e.serial % 256 ∷ e.id / 256 ∷ e.id % 256 ∷ e.parameter ∷ rest) ≡ e
unfolding entry_in
entry_back e rest = rw (div-add-mod' e.serial 256, div-add-mod' e.id 256)

entries_back : (es : List Entry) → entries_in (length es) (entries_octets es) ≡ es
unfolding entries_octets entries_in
entries_back [] = refl
entries_back (e ∷ es) = rw (entry_back e (entries_octets es), entries_back es)

pub file_back : FileBack
file_back es few good =
    let n : length (file_of es) ≡ 6 + 6 * length es = omega (arith, length_octets es) in
    front_passes (file_of es) (front_good (file_of es) (omega arith) refl refl few n)
    ∙ rw (entries_back es, filled_number es few, good)
