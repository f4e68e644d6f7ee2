-- `text_calls::cb_write_text` meets its contract: the text room's answer, packed.
use Rattle.laws.proofs.Base.{◌≤◌, arith}
use Rattle.text_calls.proofs.Answers.{used_small}
use Rattle.text_calls.proofs.cb_write_text.Goals as goal

pub overflow_cast-result : goal.overflow_cast-result
overflow_cast-result c =
    let few : c.in-Ok.used ≤ 88 = let a = c.args in used_small (record { serial = a.serial; id = a.identifier; scheme = a.scheme; parameter = a.parameter }) a.text.now a.page.now _ c.write_text-answer.ensures c.in-Ok.is in
    omega (arith, few)

pub overflow_mul-result : goal.overflow_mul-result
overflow_mul-result c =
    let few : c.in-Ok.used ≤ 88 = let a = c.args in used_small (record { serial = a.serial; id = a.identifier; scheme = a.scheme; parameter = a.parameter }) a.text.now a.page.now _ c.write_text-answer.ensures c.in-Ok.is in
    omega (arith, few)
