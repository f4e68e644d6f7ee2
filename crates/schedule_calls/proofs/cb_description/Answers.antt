-- `schedule_calls::cb_description` meets its contract: the schedule room's answer, packed.
use Rattle.laws.proofs.Base.{◌≡◌, ◌≤◌, ◌<◌, arith}
use Rattle.std.specs.Prelude.{Some, Ok}
use mir.Val.{bool_byte}
use Rattle.calls.proofs.Packed.{bit_small}
use Rattle.schedule_calls.proofs.Given.{given_small}
use Rattle.std.proofs.Common.{rules}
use Rattle.schedule_calls.proofs.cb_description.Goals as goal

pub overflow_mul-result-in-Ok-Some : goal.overflow_mul-result-in-Ok-Some
overflow_mul-result-in-Ok-Some c =
    let q : c.description_at-answer.result ≡ Ok (Some c.in-Ok-Some.given) = search rules in
    let few : c.in-Ok-Some.given.number < 64 = let a = c.args in given_small a.message.now a.received a.place _ (rw q at c.description_at-answer.ensures) in
    omega (arith, few)

pub overflow_add-result-in-Ok-Some : goal.overflow_add-result-in-Ok-Some
overflow_add-result-in-Ok-Some c =
    let q : c.description_at-answer.result ≡ Ok (Some c.in-Ok-Some.given) = search rules in
    let few : c.in-Ok-Some.given.number < 64 = let a = c.args in given_small a.message.now a.received a.place _ (rw q at c.description_at-answer.ensures) in
    let bit : bool_byte c.in-Ok-Some.given.slot.new ≤ 1 = bit_small c.in-Ok-Some.given.slot.new in
    omega (arith, few, bit)
