-- `text_writer::look_at_each` meets its contract. The invariant: the characters passed are in the tables, and their septets are counted.
use Rattle.text_writer.proofs.Foreign.{Passed}
use Rattle.text_writer.proofs.look_at_each.Given as goal

abbrev pub invariant-loop-code : goal.invariant-loop-code
invariant-loop-code l = Passed l.text l.code-index l.count
