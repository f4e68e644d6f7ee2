-- Two lines that meet the contract are equal, the text's memory included. What the system gives no contract fixes.
use Rattle.laws.proofs.Base.{◌≡◌, List, ℕ}
use Rattle.lines.specs.Paper.{PutLeft, all_behind}
use Rattle.lines.proofs.Determined.{determined_texts}
use Rattle.files.specs.Paper.{faulty}

pub determined_say_fault : (program name t : List ℕ) (a b : PutLeft) → a ≡ all_behind (faulty program name) 0 t → b ≡ all_behind (faulty program name) 0 t → a ≡ b
determined_say_fault program name = determined_texts (faulty program name) 0
