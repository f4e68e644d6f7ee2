-- Laws of what tells a message: which page is of the one that is collected.
use Rattle.laws.proofs.Base.{◌≡◌, refl, sym, ◌∙◌, false, List, ℕ, ◌+◌, ◌*◌, get_or, drop, get_or-drop, eqb, eq-eqb, ne_eqb}
use Rattle.page.specs.Paper.{header}
use Rattle.collector.specs.Paper.{page_total, total, is_of}

module _ (c p : List ℕ) where
  -- serial number and identifier as they stand in a collector and in a page
  told_serial : (header (drop 1 c)).serial ≡ get_or c 1 0 * 256 + get_or c 2 0
  unfolding header
  told_serial = rw (get_or-drop 1 c 0 0, get_or-drop 1 c 1 0)

  told_id : (header (drop 1 c)).id ≡ get_or c 3 0 * 256 + get_or c 4 0
  unfolding header
  told_id = rw (get_or-drop 1 c 2 0, get_or-drop 1 c 3 0)

  page_serial : (header p).serial ≡ get_or p 0 0 * 256 + get_or p 1 0
  unfolding header
  page_serial = refl

  page_id : (header p).id ≡ get_or p 2 0 * 256 + get_or p 3 0
  unfolding header
  page_id = refl

  -- the page is of another message by its total, by its serial number, or it is as its identifier tells
  pub other_total : (t : ℕ) → t ≡ page_total p → (total c ≡ t → ⊥) → false ≡ is_of c p
  unfolding is_of
  other_total t e ne = rw (ne_eqb (total c) (page_total p) (λ q. ne (q ∙ sym e)))

  module _ (t : ℕ) (e : t ≡ page_total p) (same : total c ≡ t) (x y : ℕ) (first : x ≡ get_or c 1 0 * 256 + get_or c 2 0) (second : y ≡ get_or p 0 0 * 256 + get_or p 1 0) where
    pub other_serial : (x ≡ y → ⊥) → false ≡ is_of c p
    unfolding is_of
    other_serial ne =
        rw (
          eq-eqb (total c) (page_total p) (same ∙ e),
          ne_eqb (header (drop 1 c)).serial (header p).serial (λ q. ne (first ∙ sym told_serial ∙ q ∙ page_serial ∙ sym second)),
        )

    pub by_identifier : x ≡ y → (v w : ℕ) → v ≡ get_or c 3 0 * 256 + get_or c 4 0 → w ≡ get_or p 2 0 * 256 + get_or p 3 0 → eqb v w ≡ is_of c p
    unfolding is_of
    by_identifier s v w third fourth =
        rw (
          eq-eqb (total c) (page_total p) (same ∙ e),
          eq-eqb (header (drop 1 c)).serial (header p).serial (told_serial ∙ sym first ∙ s ∙ second ∙ sym page_serial),
          told_id,
          page_id,
          third,
          fourth,
        )
