-- The room that a line needs.
use Rattle.laws.proofs.Base.{◌≡◌, true, List, [], ◌∷◌, ◌++◌, ℕ, ◌*◌, ◌-◌, ◌/◌, ◌%◌, ◌≤◌, min-le_left, mul-suc, arith, length, length-append, length-take, map, take, drop, ltb, eqb, eqb-true, eqb-false}
use Rattle.laws.proofs.Tests.{true_or_false, le_or_lt}
use Rattle.sizes.specs.Paper.{whole_blocks}
use Rattle.sizes.proofs.Received.{whole_bounds}
use Rattle.page.specs.Paper.{header, octet}
use Rattle.text.specs.Paper.{septets_received, points, shown}
use Rattle.text.proofs.Septets.{shown_few}
use Rattle.text.proofs.Shown.{length_points}
use Rattle.text_back.proofs.Reader.{received_bound}
use Rattle.lines.specs.Paper.{ascii, hexadecimal, flat}
use Rattle.lines.proofs.Numbers.{length_spelled, length_hexadecimal}
use Rattle.lines.proofs.Texts.{flat_append}
use Rattle.cbtext.specs.Paper.{letter, utf8, character, heading}
use Rattle.cbtext.specs.Inner.{body_texts, page_texts}
use Rattle.cbtext.proofs.Characters.{utf8_one, utf8_two, utf8_three, character_plain, character_marked}

heading_wide : (n : ℕ) (p : List ℕ) → length (flat (heading n p)) ≤ 72
unfolding flat
heading_wide n p =
    let h = header p in
    simp (length-append, length_hexadecimal)
    (omega (arith, length_spelled 19 n, length_spelled 19 (h.parameter / 16), length_spelled 19 (h.parameter % 16)))

utf8_wide : (c : ℕ) → length (utf8 c) ≤ 3
utf8_wide c =
    le_or_lt 0x80 c
    (λ h. le_or_lt 0x800 c (λ l. rw (utf8_three c l) (omega arith)) (λ l. rw (utf8_two c h l) (omega arith)))
    (λ h. rw (utf8_one c h) (omega arith))

character_wide : (c : ℕ) → length (character c) ≤ 3
character_wide c =
    true_or_false (eqb (letter c) 0)
    (λ e. rw (character_plain c (eqb-true (letter c) 0 e)) (utf8_wide c))
    (λ e. rw (character_marked c (eqb-false (letter c) 0 e)) (omega arith))

-- entries that are each no longer than wide
each_wide : (f : ℕ → List ℕ) (wide : ℕ) → ((x : ℕ) → length (f x) ≤ wide) → (xs : List ℕ) → length (flat (map f xs)) ≤ wide * length xs
unfolding flat
each_wide f wide few [] = omega arith
each_wide f wide few (x ∷ xs) =
    let longer = mul-suc wide (length xs) in
    rw (length-append (f x) (flat (map f xs)), longer) (omega (arith, few x, each_wide f wide few xs))

content_few : (p : List ℕ) (n : ℕ) → n ≤ 88 → length (take (n - 6) (drop 6 p)) ≤ 82
content_few p n h = rw length-take (omega (arith, min-le_left (n - 6) (length (drop 6 p))))

points_few : (p : List ℕ) (n : ℕ) → n ≤ 88 → length (points (shown (septets_received p n))) ≤ 93
points_few p n h = rw (length_points (shown (septets_received p n))) (omega (arith, shown_few (septets_received p n), received_bound p n h))

hex_few : (x : ℕ) → length (hexadecimal 2 x) ≤ 2
hex_few x = rw (length_hexadecimal 2 x) (omega arith)

body_wide : (p : List ℕ) (n : ℕ) → n ≤ 88 → length (flat (body_texts p n)) ≤ 285
unfolding flat ascii body_texts
body_wide p n h =
    let content = take (n - 6) (drop 6 p) in
    let text = points (shown (septets_received p n)) in
    true_or_false (ltb 0x0f (octet p 5))
    (λ q. rw q (omega (arith, each_wide (hexadecimal 2) 2 hex_few content, content_few p n h)))
    (λ q. rw q (omega (arith, each_wide character 3 character_wide text, points_few p n h)))

pub page_wide : (n : ℕ) (p : List ℕ) (received : ℕ) → whole_blocks received ≡ true → length (flat (page_texts n p received)) ≤ 358
unfolding flat
page_wide n p received blocks =
    let rest = body_texts p received ++ ((10 ∷ []) ∷ []) in
    rw (
      flat_append (heading n p) rest,
      flat_append (body_texts p received) ((10 ∷ []) ∷ []),
      length-append (flat (heading n p)) (flat (body_texts p received) ++ (10 ∷ [])),
      length-append (flat (body_texts p received)) (10 ∷ []),
    )
    (omega (arith, heading_wide n p, body_wide p received (whole_bounds received blocks).1))
