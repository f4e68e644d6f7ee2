-- Laws of what a page's header packs into.
use Rattle.laws.proofs.Base.{◌≡◌, refl, ap, ◌∙◌, List, [], ◌∷◌, ℕ, ◌+◌, ◌*◌, arith, length, get_or, eq-eqb, ne_eqb}
use Rattle.page.specs.declared.Header.{Header}
use Rattle.page.specs.Paper.{Heading, header}
use Rattle.page.specs.Coded.{heading_of}
use Rattle.page_calls.specs.Paper.{unheaded, headed, packed_headed, header_call}

module _ (p : List ℕ) where
  pub headed_length : (length p ≡ 88 → ⊥) → headed p ≡ unheaded 16
  unfolding headed
  headed_length e = rw (ne_eqb (length p) 88 e)

  pub headed_read : length p ≡ 88 → headed p ≡ record { number = 0; heading = header p }
  unfolding headed
  headed_read e = rw (eq-eqb (length p) 88 e)

  -- the first six octets
  abbrev pub six : List ℕ
  six = get_or p 0 0 ∷ get_or p 1 0 ∷ get_or p 2 0 ∷ get_or p 3 0 ∷ get_or p 4 0 ∷ get_or p 5 0 ∷ []

  six_header : header six ≡ header p
  unfolding header
  six_header = refl

  pub reads_header : (h : Header) → heading_of h ≡ header six → length p ≡ 88
      → 0x100 * h.scheme + 0x10000 * h.serial.0 + 0x100000000 * h.id.0 + 0x1000000000000 * h.parameter ≡ header_call p
  reads_header h q e =
      omega
      (arith, ap packed_headed (headed_read e), ap (λ (x : Heading). packed_headed (record { number = 0; heading = x })) (q ∙ six_header))
