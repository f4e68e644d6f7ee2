-- `text_calls::cb_read_text` meets its contract: the text room's answer, packed.
use Rattle.laws.proofs.Base.{◌≤◌, arith}
use Rattle.text_calls.proofs.Answers.{characters_small}
use Rattle.text_calls.proofs.cb_read_text.Goals as goal

pub overflow_cast-result : goal.overflow_cast-result
overflow_cast-result c =
    let few : c.in-Ok.characters ≤ 93 = let a = c.args in characters_small a.page.now a.received a.text.now _ c.read_text-answer.ensures c.in-Ok.is in
    omega (arith, few)

pub overflow_mul-result : goal.overflow_mul-result
overflow_mul-result c =
    let few : c.in-Ok.characters ≤ 93 = let a = c.args in characters_small a.page.now a.received a.text.now _ c.read_text-answer.ensures c.in-Ok.is in
    omega (arith, few)
