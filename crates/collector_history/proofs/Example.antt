-- Three pages that come as 3, 1, 2: the premises of the theorems are met, and what they give is computed.
use Rattle.laws.proofs.Base.{◌≡◌, refl, ◌∙◌, true, [], ◌∷◌, ◌++◌, map}
use Rattle.laws.specs.Search.{some}
use Rattle.laws.specs.Upto.{some_below}
use Rattle.sizes.specs.Paper.{whole_blocks}
use Rattle.page.specs.Paper.{header}
use Rattle.collector.specs.Paper.{page_number, page_total, blanks, start}
use Rattle.collector_history.specs.Claims as claims
use claims.{Offered, its_total, refused_by, same_message, with_new, all_came, since_then, since_with, first_of, pages_from, laid, Whole, three_before, three_last, three_others, page_of_three, ThreePages}
use Rattle.collector_history.proofs.History.{all_record, message_gives}

refused : refused_by (page_of_three 0x43 0xc4 88) ≡ 50
unfolding refused_by header page_number page_total whole_blocks
refused = refl

counting : since_with three_before three_last ≡ page_of_three 0x33 0xc3 22 ∷ page_of_three 0x13 0xc1 88 ∷ page_of_three 0x33 0xcf 66 ∷ three_last ∷ []
unfolding refused_by same_message with_new since_then some some_below header page_number page_total whole_blocks
counting = refl

afresh : since_with (three_before ++ (three_last ∷ [])) three_last ≡ three_last ∷ []
unfolding refused_by same_message with_new since_then some some_below header page_number page_total whole_blocks
afresh = refl

drops : map (since_with three_before) three_others ≡ map (λ (g : Offered). g ∷ []) three_others
unfolding refused_by same_message with_new since_then some some_below header page_number page_total whole_blocks
drops = refl

each_came : all_came (since_with three_before three_last) (its_total three_last) ≡ true
unfolding refused_by same_message with_new since_then some some_below header page_number page_total whole_blocks
each_came = refl

last_taken : refused_by three_last ≡ 0
unfolding refused_by header page_number page_total whole_blocks
last_taken = refl

whole : Whole three_before three_last
whole = record { taken = last_taken; each = all_record (since_with three_before three_last) (its_total three_last) each_came }

three : its_total three_last ≡ 3
unfolding header page_total
three = refl

laid_three : laid (since_with three_before three_last)
    ≡ 3 ∷ 0x12 ∷ 0x34 ∷ 0x00 ∷ 0x32 ∷ ((88 ∷ (page_of_three 0x13 0xc1 88).page) ++ ((44 ∷ three_last.page) ++ ((22 ∷ (page_of_three 0x33 0xc3 22).page) ++ blanks 12)))
unfolding laid first_of pages_from blanks header page_number page_total
laid_three = rw counting

pub three_pages : ThreePages
three_pages =
    record {
      refused = refused;
      counting = counting;
      whole = whole;
      handed = message_gives three_before three_last whole ∙ (λ i. record { number = 0; pages = three i; next = start; message = laid_three i });
      afresh = afresh;
      drops = drops;
    }
