-- Two lines that meet the contract are equal, the text's memory included. What is read of a file no contract fixes.
use Rattle.laws.proofs.Base.{◌≡◌, List, ℕ}
use Rattle.lines.specs.Paper.{PutLeft, all_behind}
use Rattle.lines.proofs.Determined.{determined_texts}
use Rattle.refusal_lines.specs.Paper.{refused, begin_refused, entry_refused}

pub determined_say_refused : (program about : List ℕ) (number : ℕ) (t : List ℕ) (a b : PutLeft) → a ≡ all_behind (refused program about number) 0 t
    → b ≡ all_behind (refused program about number) 0 t → a ≡ b
determined_say_refused program about number = determined_texts (refused program about number) 0

pub determined_say_begin : (program begin : List ℕ) (count : ℕ) (t : List ℕ) (a b : PutLeft) → a ≡ all_behind (begin_refused program begin count) 0 t
    → b ≡ all_behind (begin_refused program begin count) 0 t → a ≡ b
determined_say_begin program begin count = determined_texts (begin_refused program begin count) 0

pub determined_say_entry : (program about : List ℕ) (number entry kind : ℕ) (t : List ℕ) (a b : PutLeft)
    → a ≡ all_behind (entry_refused program about number entry kind) 0 t → b ≡ all_behind (entry_refused program about number entry kind) 0 t → a ≡ b
determined_say_entry program about number entry kind = determined_texts (entry_refused program about number entry kind) 0
