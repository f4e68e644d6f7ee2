-- The room that a line needs.
use Rattle.laws.proofs.Base.{Bool, true, false, cond, [], ◌∷◌, ◌++◌, ℕ, ◌≤◌, arith, length, length-append, eqb}
use Rattle.lines.specs.Paper.{ascii, decimal, flat}
use Rattle.lines.proofs.Numbers.{length_spelled}
use Rattle.lines.proofs.Texts.{flat_append}
use Rattle.words.specs.Paper.{words, rule_words}
use Rattle.words.proofs.Few.{words_few, rule_words_few}
use Rattle.checker.specs.Paper.{SlotsChecked}
use Rattle.cbcheck.specs.Paper.{names_untrue, rule_of, reason, said, line}

reason_wide : (n slot rule : ℕ) → length (flat (reason n slot rule)) ≤ 79
unfolding flat ascii reason
reason_wide n slot rule = go (names_untrue n slot)
  where
    go : (b : Bool) → length (flat (cond b (ascii "slot " ∷ decimal slot ∷ ascii ": " ∷ rule_words rule ∷ []) (words n ∷ []))) ≤ 79
    go true = simp length-append (omega (arith, length_spelled 19 slot, rule_words_few rule))
    go false = rw (length-append (words n)) (omega (arith, words_few n))

said_wide : (n slot rule : ℕ) → length (flat (said n slot rule)) ≤ 80
unfolding flat ascii said
said_wide n slot rule = go (eqb n 0)
  where
    go : (b : Bool) → length (flat (cond b (ascii "true\n" ∷ []) (reason n slot rule ++ ((10 ∷ []) ∷ [])))) ≤ 80
    go true = omega arith
    go false = rw (flat_append (reason n slot rule), length-append (flat (reason n slot rule))) (omega (arith, reason_wide n slot rule))

pub line_wide : (n : ℕ) (l : SlotsChecked) → length (flat (line n l)) ≤ 143
unfolding flat
line_wide n l =
    let k = l.checked in
    simp length-append
    (omega (arith, length_spelled 19 n, length_spelled 19 k.number, length_spelled 19 k.slot, said_wide k.number k.slot (rule_of l.verdicts k.slot)))
