-- `plan_slots::mark` meets its contract: beside a page's key there is room for the kind.
use Rattle.laws.proofs.Base.{◌<◌, arith}
use Rattle.page.specs.Coded.{key_of}
use Rattle.page.proofs.Sameness.{key_below}
use Rattle.plan.specs.Coded.{entry_of}
use Rattle.plan_slots.specs.Paper.{page_of}
use Rattle.std.proofs.Common.{rules}
use Rattle.plan_slots.proofs.mark.Goals as goal

pub overflow_mul-result : goal.overflow_mul-result
overflow_mul-result c =
    let below : key_of (page_of (entry_of c.args.entry.now)) < 0x10000000000 = key_below _ (record { serial = search rules; id = search rules }) (search rules) in
    omega (arith, below)

pub overflow_add-result : goal.overflow_add-result
overflow_add-result c =
    let below : key_of (page_of (entry_of c.args.entry.now)) < 0x10000000000 = key_below _ (record { serial = search rules; id = search rules }) (search rules) in
    omega (arith, below)
