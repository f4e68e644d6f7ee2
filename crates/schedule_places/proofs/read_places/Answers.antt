-- `schedule_places::read_places` meets its contract: each answer is a case of the reader with all places.
use Rattle.laws.proofs.Base.{◌≡◌, refl, sym, ◌∙◌, zero-add, arith, length, length-take, take}
use Rattle.std.proofs.lemmas.Result.{err_from_is_err_and}
use Rattle.schedule.specs.Paper.{place}
use Rattle.schedule_places.proofs.Placing.{head_read_lem, head_refused, readable, placed_short_new, placed_short_rest, all_firsts, placed_false, placed_good}
use Rattle.schedule_places.proofs.read_places.Goals as goal

pub returns-in_err-span : goal.returns-in_err-span
returns-in_err-span c =
    let p = err_from_is_err_and c.from_residual.result c.from_residual.ensures.1 in
    rw (p.1, p.2) (head_refused _ _ _ c.in_err-span.ensures)

pub find_group-requires : goal.find_group-requires
unfolding place
find_group-requires c =
    let h = head_read_lem _ _ _ _ c.in_ok-span.ensures in
    (readable _ _ _ _ h, c.new_bits-bits.ensures, refl, omega (arith, h.room))

pub returns-in_err-next : goal.returns-in_err-next
returns-in_err-next c =
    let h = head_read_lem _ _ _ _ c.in_ok-span.ensures in
    let p = err_from_is_err_and c.from_residual-in_err-next.result c.from_residual-in_err-next.ensures.1 in
    let g = c.in_err-next.ensures in
    rw (p.1, p.2, g.0) (placed_short_new _ _ _ _ h g.1)

pub find_group-requires-2 : goal.find_group-requires-2
find_group-requires-2 c =
    let h = head_read_lem _ _ _ _ c.in_ok-span.ensures in
    let g = c.in_ok-next.ensures in
    (readable _ _ _ _ h, c.new_bits-bits.ensures, g.0.reached ∙ rw zero-add, g.1)

pub returns-in_err-find_group : goal.returns-in_err-find_group
returns-in_err-find_group c =
    let h = head_read_lem _ _ _ _ c.in_ok-span.ensures in
    let p = err_from_is_err_and c.from_residual-in_err-find_group.result c.from_residual-in_err-find_group.ensures.1 in
    let g = c.in_err-find_group.ensures in
    rw (p.1, p.2, g.0) (placed_short_rest _ _ _ _ h g.1)

pub slice_bounds-places-end : goal.slice_bounds-places-end
slice_bounds-places-end c =
    let h = head_read_lem _ _ _ _ c.in_ok-span.ensures in
    omega (arith, h.last, c.find_group-2.array_long)

pub slice_bounds-has_false_repeat-end : goal.slice_bounds-has_false_repeat-end
slice_bounds-has_false_repeat-end c =
    let h = head_read_lem _ _ _ _ c.in_ok-span.ensures in
    rw length-take (omega (arith, h.last, c.find_group-2.array_long))

pub returns-then-has_false_repeat : goal.returns-then-has_false_repeat
returns-then-has_false_repeat c =
    let h = head_read_lem _ _ _ _ c.in_ok-span.ensures in
    let n = c.in_ok-next.ensures in
    let g = c.in_ok-find_group.ensures in
    let e = c.in_ok-span.span.end in
    let size : length (take e c.find_group-2.new.places) ≡ e = rw length-take (omega (arith, h.last, c.find_group-2.array_long)) in
    placed_false _ _ _ _ h _ _ _ _ _ _ n.0 g.0 g.1 (sym (rw size at c.has_false_repeat.ensures) ∙ c.if-has_false_repeat.true)

pub returns : goal.returns
returns c =
    let h = head_read_lem _ _ _ _ c.in_ok-span.ensures in
    let n = c.in_ok-next.ensures in
    let g = c.in_ok-find_group.ensures in
    let e = c.in_ok-span.span.end in
    let size : length (take e c.find_group-2.new.places) ≡ e = rw length-take (omega (arith, h.last, c.find_group-2.array_long)) in
    placed_good _ _ _ _ h _ _ _ _ _ _ n.0 g.0 g.1 _ c.in_ok-span.ensures c.find_group-2.array_long
    (sym (rw size at c.has_false_repeat.ensures) ∙ c.if-has_false_repeat.false)

pub has_false_repeat-requires : goal.has_false_repeat-requires
has_false_repeat-requires c =
    let h = head_read_lem _ _ _ _ c.in_ok-span.ensures in
    let n = c.in_ok-next.ensures in
    let g = c.in_ok-find_group.ensures in
    let e = c.in_ok-span.span.end in
    let size : length (take e c.find_group-2.new.places) ≡ e = rw length-take (omega (arith, h.last, c.find_group-2.array_long)) in
    rw size (h.last, all_firsts _ _ _ _ h _ _ _ _ _ _ n.0 g.0 g.1)
