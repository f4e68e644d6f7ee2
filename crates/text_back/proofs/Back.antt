-- What the writer writes is read back, the same characters, received whole or up to the last used block.
use Rattle.laws.proofs.Base.{◌≡◌, refl, sym, ap, ◌∙◌, false, List, [], ◌∷◌, ◌++◌, map, map-append, ℕ}
use Rattle.laws.proofs.Base.{◌+◌, ◌*◌, ◌-◌, ◌/◌, ◌^◌, ◌≤◌, min, zero-lt-suc, le_refl, add-sub_of_le, arith, lit<, length, get_or, take, drop}
use Rattle.laws.proofs.Base.{replicate, length-append, length-map, take-length, take_at, take-take, drop_at, take-append-add, get_or-take}
use lib.Pow.{pow-add}
use Rattle.laws.specs.Radix.{value, Below}
use Rattle.laws.proofs.Parts.{drop_take, take_replicate}
use Rattle.laws.proofs.Radix.{length_digits, take_digits, digits_front, digits_kept, power_bits}
use Rattle.sizes.proofs.Received.{whole_times, whole_bounds}
use Rattle.page.specs.Paper.{Heading, header, header_octets, octet}
use Rattle.page.proofs.HeaderBack.{header_back, header_length}
use Rattle.text.specs.Paper.{cr, Character, unpadded, septets, packed, page_octets, used_octets, foreign, ends_in_cr, written_page, whole_of, septets_received, trimmed, points, shown, shown_with, shown_text}
use Rattle.text.proofs.Cases.{reading_0}
use Rattle.text.proofs.Septets.{read_as, decoded_text, decoded_crs, septets_count, septets_below}
use Rattle.text.proofs.Trim.{trim_other, trim_padding, take_last}
use Rattle.text_back.specs.Claims.{given_back, TextBack, TextBackWhole, TextBackBlocks, HeadingBack}
use Rattle.text_back.proofs.Accepted.{writer_accepts}

-- 128 ^ k divides 256 ^ m where k septets are no more bits than m octets
bits_kept : (k m : ℕ) → 7 * k ≤ 8 * m → 128 ^ k * 2 ^ (8 * m - 7 * k) ≡ 256 ^ m
bits_kept k m h =
    rw (power_bits 7 k, power_bits 8 m, ← pow-add 2 (7 * k) (8 * m - 7 * k), add-sub_of_le h)

-- the whole septets of the first m packed octets are the first septets
front_back : (s : List ℕ) (m : ℕ) → length s ≡ 93 → m ≤ 82 → Below 128 s → whole_of (take m (packed s)) ≡ take (8 * m / 7) s
unfolding whole_of packed
front_back s m e h low =
    rw (take_digits 256 m 82 (value 128 s) h, length_digits 256 m (value 128 s))
    (digits_kept 256 128 m (8 * m / 7) (2 ^ (8 * m - 7 * (8 * m / 7))) (value 128 s) (lit< tt) (bits_kept (8 * m / 7) m (omega arith))
    ∙ digits_front 128 (8 * m / 7) s low (omega arith))

-- nothing is dropped of the characters of a text that doesn't end in CR
trim_text : (t : List ℕ) → ends_in_cr t ≡ false → trimmed (map read_as t) ≡ map read_as t
unfolding ends_in_cr trimmed
trim_text [] ends = refl
trim_text (x ∷ t) ends =
    let all : List ℕ = x ∷ t in
    let front : List ℕ = take (length all - 1) all in
    let c : ℕ = get_or all (length all - 1) 0 in
    let split : all ≡ front ++ (c ∷ []) = sym (take-length all) ∙ take_last all (length all) 0 (zero-lt-suc _) (le_refl _) in
    let m : map read_as all ≡ map read_as front ++ (read_as c ∷ []) = ap (map read_as) split ∙ map-append read_as front (c ∷ []) in
    ap trimmed m ∙ trim_other (map read_as front) (read_as c) (rw ends) ∙ sym m

-- the first k septets of a text, all its own among them, are read as its characters
shown_front : (t : List ℕ) (k : ℕ) → length (unpadded t) ≤ k → foreign t ≡ false → ends_in_cr t ≡ false → shown (take k (septets t)) ≡ map read_as t
unfolding septets
shown_front t k h known ends =
    let m : List ℕ = unpadded t in
    let j : ℕ = min (k - length m) (93 - length m) in
    let e : length m + (k - length m) ≡ k = add-sub_of_le h in
    let cut : take k (m ++ replicate (93 - length m) cr) ≡ m ++ replicate j cr =
    rw (e, take_replicate (k - length m) (93 - length m) cr) at (take-append-add m (replicate (93 - length m) cr) (k - length m)) in
    ap shown cut
    ∙ ap trimmed (decoded_text t (replicate j cr) known ∙ ap (λ (l : List Character). map read_as t ++ l) (decoded_crs j))
    ∙ trim_padding j (map read_as t)
    ∙ trim_text t ends

-- the content of what agrees with a written page on its first n octets
content_back : (h : Heading) (t q : List ℕ) (n : ℕ) → take n q ≡ take n (page_octets h t) → take (n - 6) (drop 6 q) ≡ take (n - 6) (packed (septets t))
unfolding page_octets
content_back h t q n e =
    sym (drop_take 6 n q)
    ∙ rw (e, drop_take 6 n (page_octets h t), drop_at (header_octets h) (packed (septets t)) 6 (header_length h))

-- what was written is a page
pub written_length : (h : Heading) (t p : List ℕ) → (written_page h t p).number ≡ 0 → length (written_page h t p).page ≡ 88
unfolding page_octets packed
written_length h t p z =
    rw (writer_accepts h t p z).result
    (length-append (header_octets h) (packed (septets t)) ∙ rw (header_length h, length_digits 256 82 (value 128 (septets t))))

-- what agrees with a written page on its header octets has the header that was written
heading_agrees : (h : Heading) (t q : List ℕ) (n : ℕ) → 6 ≤ n → take n q ≡ take n (page_octets h t) → header (take 6 q) ≡ h
unfolding page_octets
heading_agrees h t q n l e =
    rw (← take-take 6 n q l, e, take-take 6 n (page_octets h t) l, take_at (header_octets h) (packed (septets t)) 6 (header_length h)) (header_back h)

scheme_back : (h : Heading) (t q : List ℕ) (n : ℕ) → 6 ≤ n → take n q ≡ take n (page_octets h t) → octet q 5 ≡ h.scheme
unfolding header
scheme_back h t q n l e = sym (get_or-take 6 q 4 0 (lit< tt)) ∙ ap (λ (x : Heading). x.scheme) (heading_agrees h t q n l e)

points_back : (t : List ℕ) → points (map read_as t) ≡ t
points_back [] = refl
points_back (c ∷ t) = ap (◌∷◌ c) (points_back t)

shown_back : (t : List ℕ) → shown_text (map read_as t) ≡ given_back t
unfolding shown_with
shown_back t = rw (length-map t read_as, points_back t)

-- what was used is at least the header, and at most the page
pub used_bounds : (h : Heading) (t p : List ℕ) → (written_page h t p).number ≡ 0 → (6 ≤ (written_page h t p).used) × ((written_page h t p).used ≤ 88)
used_bounds h t p z =
    let a = writer_accepts h t p z in
    let e : (written_page h t p).used ≡ used_octets t = rw a.result in
    omega (arith, e, a.short)

pub text_back : TextBack
text_back h t p z q u n w used lq lu agree =
    let a = writer_accepts h t p z in
    let b = whole_bounds n w in
    let e : take n q ≡ take n (page_octets h t) = agree ∙ rw a.result in
    let s : octet q 5 ≤ 15 = rw (scheme_back h t q n (omega arith) e) a.scheme in
    let got : septets_received q n ≡ take (8 * (n - 6) / 7) (septets t) =
    ap whole_of (content_back h t q n e)
    ∙ front_back (septets t) (n - 6) (septets_count t a.short) (omega arith) (septets_below t) in
    reading_0 q n u lu lq w s
    ∙ ap (λ (l : List ℕ). shown_text (shown l)) got
    ∙ ap shown_text (shown_front t (8 * (n - 6) / 7) (omega arith) a.known a.open_ended)
    ∙ shown_back t

pub heading_back : HeadingBack
heading_back h t p q n z l agree =
    heading_agrees h t q n l (rw (writer_accepts h t p z).result at agree)

pub text_back_whole : TextBackWhole
text_back_whole h t p u z lu =
    let a = writer_accepts h t p z in
    text_back h t p z (written_page h t p).page u 88 (whole_times 4 (omega arith) (omega arith)) (omega (arith, a.short)) (written_length h t p z) lu refl

pub text_back_blocks : TextBackBlocks
text_back_blocks h t p q u z lq lu agree =
    let a = writer_accepts h t p z in
    let e : (written_page h t p).used ≡ used_octets t = rw a.result in
    let j : ℕ = ((written_page h t p).used + 21) / 22 in
    text_back h t p z q u (22 * j) (whole_times j (omega (arith, a.short)) (omega (arith, a.short)))
    (omega (arith, e)) lq lu agree
