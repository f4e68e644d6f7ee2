-- Two answers that meet a contract of `words` are equal, the text's memory included.
use Rattle.laws.proofs.Base.{◌≡◌, List, ℕ}
use Rattle.lines.specs.Paper.{PutLeft, behind}
use Rattle.lines.proofs.Determined.{determined_put}
use Rattle.words.specs.Paper.{words, rule_words}

pub determined_put_words : (number n : ℕ) (t : List ℕ) (a b : PutLeft) → a ≡ behind (words number) n t → b ≡ behind (words number) n t → a ≡ b
determined_put_words number = determined_put (words number)

pub determined_put_rule : (rule n : ℕ) (t : List ℕ) (a b : PutLeft) → a ≡ behind (rule_words rule) n t → b ≡ behind (rule_words rule) n t → a ≡ b
determined_put_rule rule = determined_put (rule_words rule)
