-- The cases of a plan with a zero in a page parameter, all computed.
use Rattle.laws.proofs.Base.{refl}
use Rattle.sizes.specs.Paper.{whole_blocks}
use Rattle.laws.specs.Search.{some, first_from}
use Rattle.laws.specs.Upto as upto
use Rattle.page.specs.Paper.{same_page}
use Rattle.plan.specs.Paper.{bad, plan_number}
use Rattle.plan_read.specs.Paper.{entry_in, entries_in, entries_octets, read_plan}
use Rattle.plan_slots.specs.Paper.{holds, lowest_slot, has_page}
use Rattle.schedule.specs.Paper.{new, place, tells, read}
use Rattle.sender_message.specs.Paper as told
use Rattle.sender.specs.Paper as sender
use Rattle.checker.specs.Paper.{check, is_true}
use Rattle.plan_parameters.specs.Claims.{ZeroIsOnePage}

pub zero_is_one_page : ZeroIsOnePage
unfolding entries_octets read_plan entries_in entry_in plan_number bad some sender.write sender.planned_told sender.new_at told.descriptions told.octets_of_all
    told.new_bits told.used_part told.padded upto.picked upto.each upto.some_below upto.count upto.lowest has_page lowest_slot holds same_page first_from
    check is_true new place tells read whole_blocks
zero_is_one_page = refl
