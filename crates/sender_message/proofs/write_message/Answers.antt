-- `sender_message::write_message` meets its contract: past the tests, the last of them and the message by what is put.
use Rattle.laws.proofs.Base.{◌≡◌, sym, ap, ◌∙◌, ◌+◌, ◌≤◌, arith, length, take}
use Rattle.sender_message.specs.Paper.{descriptions}
use Rattle.sender_message.specs.Coded.{shown_in}
use Rattle.sender_message.proofs.Agree.{descriptions_part, used_part_part}
use Rattle.sender_message.proofs.Cases.{message_34, message_0}
use Rattle.sender_message.proofs.Message.{message_cut}
use Rattle.sender_message.proofs.write_message.Goals as goal

pub returns-then-draft-gt-MESSAGE : goal.returns-then-draft-gt-MESSAGE
returns-then-draft-gt-MESSAGE c =
    let a = c.args in
    let told = ap length (descriptions_part a.slots a.count (omega arith)) in
    sym
    (message_34 a.begin (shown_in a.slots) a.count a.out.now (omega arith)
    (omega arith) (omega arith) (omega arith) (omega (arith, c.compose.ensures.1)))

pub returns : goal.returns
returns c =
    let a = c.args in
    let told = ap length (descriptions_part a.slots a.count (omega arith)) in
    let used : c.compose.new.self.next ≡ 8 + length (descriptions (shown_in a.slots) a.count) = omega (arith, c.compose.ensures.1) in
    let few : length (descriptions (shown_in a.slots) a.count) ≤ 80 = omega arith in
    let put = c.compose.ensures.0 ∙ rw (used_part_part a.slots a.count (omega arith)) in
    (λ i. record {
      number = 0;
      used = used i;
      output = (c.copy.ensures ∙ ap (take 88) put ∙ message_cut a.begin (shown_in a.slots) a.count few) i;
    })
    ∙ sym
    (message_0 a.begin (shown_in a.slots) a.count a.out.now (omega arith)
    (omega arith) (omega arith) (omega arith) few)
