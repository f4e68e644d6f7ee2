-- What the text room's answers count is small.
use Rattle.laws.proofs.Base.{◌≡◌, sym, ap, List, ℕ, ◌≤◌, arith}
use Rattle.page.specs.Paper.{Heading}
use Rattle.std.specs.Prelude.{Result, Ok}
use Rattle.refusals.specs.declared.Refusal.{Refusal}
use Rattle.text.specs.Paper.{PageLeft, Reading, written_page, reading}
use Rattle.text_writer.specs.Coded.{writing_of}
use Rattle.text_reader.specs.Coded.{reading_of}
use Rattle.text_back.proofs.Back.{used_bounds}
use Rattle.text_back.proofs.Reader.{characters_bounded}

pub used_small : (h : Heading) (t p q : List ℕ) {x : Result ℕ Refusal} {u : ℕ} → writing_of x q ≡ written_page h t p → x ≡ Ok u → u ≤ 88
used_small h t p q e k =
    let w = rw k at e in
    omega (arith, (used_bounds h t p (sym (ap (λ (y : PageLeft). y.number) w))).1, ap (λ (y : PageLeft). y.used) w)

pub characters_small : (p : List ℕ) (n : ℕ) (t q : List ℕ) {x : Result ℕ Refusal} {u : ℕ} → reading_of x q ≡ reading p n t → x ≡ Ok u → u ≤ 93
characters_small p n t q e k = omega (arith, characters_bounded p n t, ap (λ (y : Reading). y.characters) (rw k at e))
