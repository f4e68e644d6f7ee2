-- `packing::number` meets its contract: the sum is the number of the digits from i on.
use Rattle.laws.proofs.Base.{◌≡◌, List, ℕ, ◌+◌, ◌-◌, ◌*◌, ◌^◌, ◌≤◌, ◌<◌, lt_of_lt_of_le, arith, length, get_or, drop, drop-length}
use Rattle.laws.specs.Radix.{value}
use Rattle.packing.specs.Inner.{Word}
use Rattle.laws.proofs.Radix.{value_back, value_drop_lt}
use Rattle.packing.proofs.number.Goals as goal

-- what a turn makes of the sum is a machine word
room : (b i s : ℕ) (xs : List ℕ) → Word b xs → s ≡ value b (drop i xs) → 0 < i → i ≤ length xs → s * b + get_or xs (i - 1) 0 < 2 ^ 64
room b i s xs w e p h = rw (e, value_back b i xs p h) (lt_of_lt_of_le (value_drop_lt b (i - 1) xs w.below) w.room)

pub loop-i-init : goal.loop-i-init
unfolding value
loop-i-init c = rw (drop-length c.args.list.now)

pub overflow_mul-sum : goal.overflow_mul-sum
overflow_mul-sum c =
    let l = c.loop-i in
    let r = room c.args.base l.i l.sum c.args.list.now c.requires l.invariant c.loop-i-test.true (omega arith) in
    omega arith

pub overflow_add-sum : goal.overflow_add-sum
overflow_add-sum c =
    let l = c.loop-i in
    record {
      fits = rw c.from.ensures (room c.args.base l.i l.sum c.args.list.now c.requires l.invariant c.loop-i-test.true (omega arith));
    }

pub loop-i-preserved : goal.loop-i-preserved
loop-i-preserved c =
    let l = c.loop-i in
    let a = c.args in
    rw (c.from.ensures, l.invariant) (value_back a.base l.i a.list.now c.loop-i-test.true (omega arith))
