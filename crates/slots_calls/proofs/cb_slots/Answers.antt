-- `slots_calls::cb_slots` meets its contract: all slots told from the places of the message's descriptions.
use Rattle.laws.proofs.Base.{◌≡◌, sym, ◌<◌, arith}
use Rattle.slots_calls.proofs.Slots.{refuses_slots, found_shows, found_small, tells_slots}
use Rattle.std.proofs.Common.{rules}
use Rattle.slots_calls.proofs.cb_slots.Goals as goal

pub tell-requires : goal.tell-requires
tell-requires c =
    let a = c.args in
    found_shows a.message.now a.received _ c.in-Ok.ensures

pub overflow_cast-result : goal.overflow_cast-result
overflow_cast-result c =
    let few : (c.in-Ok.found.span.begin < 64) × (c.in-Ok.found.span.end < 64) = let a = c.args in found_small a.message.now a.received _ c.in-Ok.ensures in
    omega (arith, few)

pub overflow_mul-result : goal.overflow_mul-result
overflow_mul-result c =
    let few : (c.in-Ok.found.span.begin < 64) × (c.in-Ok.found.span.end < 64) = let a = c.args in found_small a.message.now a.received _ c.in-Ok.ensures in
    omega (arith, few)

pub overflow_cast-result-in-Ok : goal.overflow_cast-result-in-Ok
overflow_cast-result-in-Ok c =
    let few : (c.in-Ok.found.span.begin < 64) × (c.in-Ok.found.span.end < 64) = let a = c.args in found_small a.message.now a.received _ c.in-Ok.ensures in
    omega (arith, few)

pub overflow_mul-result-in-Ok : goal.overflow_mul-result-in-Ok
overflow_mul-result-in-Ok c =
    let few : (c.in-Ok.found.span.begin < 64) × (c.in-Ok.found.span.end < 64) = let a = c.args in found_small a.message.now a.received _ c.in-Ok.ensures in
    omega (arith, few)

pub overflow_add-result : goal.overflow_add-result
overflow_add-result c =
    let few : (c.in-Ok.found.span.begin < 64) × (c.in-Ok.found.span.end < 64) = let a = c.args in found_small a.message.now a.received _ c.in-Ok.ensures in
    omega (arith, few)

pub returns-in-Err : goal.returns-in-Err
returns-in-Err c =
    let a = c.args in
    let kept : c.in-Some.slots.now ≡ a.slots.now = c.in-Some.ensures.cases.same in
    rw (c.from-in-Err-2.ensures, c.from-in-Err.ensures, kept) (refuses_slots a.message.now a.received a.slots.now c.in-Some.ensures.cases.long _ c.in-Err.ensures)

pub returns-in-Ok : goal.returns-in-Ok
returns-in-Ok c =
    let a = c.args in
    tells_slots a.message.now a.received _ c.in-Ok.ensures a.slots.now c.in-Some.ensures.cases.long _ c.tell.ensures
