-- What it says that the writer or the reader gives 0.
use Rattle.laws.proofs.Base.{◌≡◌, refl, true, false, List, ℕ, ◌≤◌, length, ltb-false, not-false}
use Rattle.sizes.specs.Paper.{whole_blocks}
use Rattle.laws.proofs.Ruled.{Ruling, refuses, passes, ruling, not_among, others, unrefused}
use Rattle.page.specs.Paper.{Heading}
use Rattle.text.specs.Paper.{PageLeft, foreign, ends_in_cr, unpadded, used_octets, page_octets, writer_tests, written_page, septets_received, shown, shown_text, reader_tests, reading_with, reading}
use Rattle.text.proofs.Cases.{unwritten, unread}

-- no test of the writer's order held
pub record WriterAccepts (h : Heading) (t p : List ℕ) : Type 0 where
  pub scheme : h.scheme ≤ 15
  pub known : foreign t ≡ false
  pub short : length (unpadded t) ≤ 93
  pub open_ended : ends_in_cr t ≡ false
  pub result : written_page h t p ≡ record { number = 0; used = used_octets t; page = page_octets h t }

pub writer_accepts : (h : Heading) (t p : List ℕ) → (written_page h t p).number ≡ 0 → WriterAccepts h t p
unfolding written_page
writer_accepts h t p z =
    let tests = writer_tests h t p in
    let w = unrefused (λ (x : PageLeft). x.number) (λ n. unwritten n p) (λ n. refl) tests _ 0 (others 0 tests refl) z in
    record {
      scheme = ltb-false 15 h.scheme w.0.1.0;
      known = w.0.1.1.1.0;
      short = ltb-false 93 (length (unpadded t)) w.0.1.1.1.1.0;
      open_ended = w.0.1.1.1.1.1.0;
      result = w.1;
    }

-- either the reader refuses, or no test of its order held
pub data Reads (p : List ℕ) (n : ℕ) (t : List ℕ) : Type 0 where
  refused : (m : ℕ) → (m ≡ 0 → ⊥) → reading p n t ≡ unread m t → Reads p n t
  read : whole_blocks n ≡ true → reading p n t ≡ shown_text (shown (septets_received p n)) → Reads p n t

pub reads : (p : List ℕ) (n : ℕ) (t : List ℕ) → Reads p n t
unfolding reading_with
reads p n t = go (ruling (λ (m : ℕ). unread m t) (reader_tests p n t) (shown_text (shown (septets_received p n))))
  where
    go : Ruling (λ (m : ℕ). unread m t) (reader_tests p n t) (shown_text (shown (septets_received p n))) (reading p n t) → Reads p n t
    go (refuses m a e) = refused m (not_among 0 (reader_tests p n t) refl m a) e
    go (passes none e) = read (not-false _ none.1.1.0) e
