-- Two pages that come as 2, 2, 1, with a null block between: the premises of the theorem are met.
use Rattle.laws.proofs.Base.{◌≡◌, refl, sym, ◌∙◌, true, List, [], ◌∷◌, ◌++◌, ℕ, zero, suc, ◌<◌, arith, length, eqb, eq-eqb, eqb-true}
use Rattle.laws.specs.Search.{some}
use Rattle.laws.proofs.Tests.{true_or_false}
use Rattle.block.specs.Paper as block
use Rattle.block_history.specs.Claims as pieces
use Rattle.block_history.proofs.History.{after_append}
use Rattle.alphabet.specs.Paper.{alphabet, septet_of}
use Rattle.text.specs.Paper as text
use Rattle.delivery.proofs.Air.{started_proper}
use Rattle.collector_delivery.specs.Claims.{page_written, blocks_of, heard, is_one, Order, numbers_sent, two_pages, null_block, two_sent, two_last, TwoPages}
use Rattle.collector_delivery.proofs.Air.{message_over_the_air}

one_of_two : (i : ℕ) → is_one i (numbers_sent two_sent) ≡ eqb 1 i
unfolding some
one_of_two i = true_or_false (eqb 1 i) (λ e. rw e) (λ e. rw e)

order : Order 2 (numbers_sent two_sent) 0
order =
    record {
      last = omega arith;
      others = λ i. (
        (λ e. let one = eqb-true 1 i (sym (one_of_two i) ∙ e) in (omega arith, λ q. omega arith)),
        λ q. let ne = q.1 in one_of_two i ∙ eq-eqb 1 i (others_of i q.0 ne),
      );
    }
  where
    others_of : (i : ℕ) → i < 2 → (i ≡ 0 → ⊥) → 1 ≡ i
    others_of zero l ne = absurd (ne refl)
    others_of (suc i) l ne = omega arith

-- a null block completes nothing
null_quiet : (h : block.Held) → block.proper h ≡ true → heard h (null_block ∷ []) ≡ []
unfolding heard block.step
null_quiet h good = rw good

written_two : (p : List ℕ) → length p ≡ 88 → (i : ℕ) → i < 2 → (page_written two_pages p i).number ≡ 0
unfolding text.written_page text.foreign text.septets_of text.unpadded text.ends_in_cr text.bad_parameter alphabet septet_of
written_two p page zero l = rw (eq-eqb (length p) 88 page)
written_two p page (suc zero) l = rw (eq-eqb (length p) 88 page)
written_two p page (suc (suc i)) l = absurd (omega arith)

pub two_pages_lem : TwoPages
unfolding pieces.after heard
two_pages_lem p o u page room size =
    let b = blocks_of two_pages p o 1 in
    let good : block.proper (pieces.after (pieces.after block.start b) b) ≡ true = rw (sym (after_append block.start b b)) (started_proper (b ++ b)) in
    message_over_the_air two_pages p o u [] two_sent two_last (omega arith) order (refl, (refl, (null_quiet _ good, tt))) (written_two p page) room size
