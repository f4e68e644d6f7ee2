-- `text_writer::put_page` meets its contract: the header is copied over the page's beginning, and what is packed stands in the rest.
use Rattle.laws.proofs.Base.{◌≡◌, ap, ◌∙◌, List, [], ◌++◌, append-nil, ◌-◌, le_refl, ℕ, length, take, drop, length-drop, drop_of_length-le, take_at}
use Rattle.page.specs.Coded.{heading_of}
use Rattle.page.proofs.HeaderBack.{header_length}
use Rattle.text.specs.Paper.{page_octets}
use Rattle.text_writer.proofs.put_page.Goals as goal

made : (head rest d y : List ℕ) → length head ≡ 6 → d ≡ head ++ rest → take 6 d ++ (y ++ drop (length d - 6) (drop 6 d)) ≡ head ++ y
made head rest d y h e =
    let none : drop (length d - 6) (drop 6 d) ≡ [] = drop_of_length-le (drop 6 d) {i = length d - 6} (rw length-drop (le_refl _)) in
    rw (none, append-nil y, e, take_at head rest 6 h)

pub returns : goal.returns
unfolding page_octets
returns c =
    let h = c.from-head in
    let a = c.args in
    let rest = drop 6 a.page.now in
    made h.result rest _ c.pack.new.octets (ap length h.ensures ∙ header_length (heading_of a.heading)) (ap (λ (l : List ℕ). l ++ rest) c.copy.ensures)
    ∙ rw (h.ensures, c.pack.ensures)
