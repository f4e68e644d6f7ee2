-- `sender_message::Draft::compose` meets its contract.
use Rattle.laws.proofs.Base.{arith, length}
use Rattle.sender_message.specs.Coded.{shown_in}
use Rattle.sender_message.proofs.Groups.{length_descriptions, descriptions_few}
use Rattle.sender_message.proofs.Message.{message_put}
use Rattle.sender_message.proofs.Draft.compose.Goals as goal

pub put_group-requires : goal.put_group-requires
put_group-requires c =
    let n = length c.args.told.now in
    let all = length_descriptions (shown_in c.args.told.now) n in
    omega (arith, c.put_header.ensures.next, descriptions_few (shown_in c.args.told.now) n, c.requires.2)

pub put_group-requires-2 : goal.put_group-requires-2
put_group-requires-2 c =
    let n = length c.args.told.now in
    let all = length_descriptions (shown_in c.args.told.now) n in
    omega (arith, c.put_header.ensures.next, c.put_group.ensures.next, descriptions_few (shown_in c.args.told.now) n, c.requires.2)

pub returns : goal.returns
returns c =
    let a = c.args in
    message_put a.begin (shown_in a.told.now) (length a.told.now) _ _ _ _ _ _ _ c.put_header.ensures.octets c.put_header.ensures.next
    c.put_group.ensures.octets c.put_group.ensures.next c.put_group-2.ensures.octets c.put_group-2.ensures.next
