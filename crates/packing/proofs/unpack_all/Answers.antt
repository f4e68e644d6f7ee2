-- `packing::unpack_all` meets its contract: after g turns the first g groups of seven octets stand as eight septets each.
use Rattle.laws.proofs.Base.{◌≡◌, refl, ap, ◌∙◌, ℕ, ◌+◌, ◌*◌, ◌-◌, ◌/◌, ◌≤◌, arith, length, lit≤, lit<}
use Rattle.laws.specs.Radix.{value, digits}
use Rattle.laws.proofs.Radix.{group_turn, group_end}
use Rattle.laws.proofs.Parts.{length_part}
use Rattle.packing.proofs.Words.{part_word}
use Rattle.packing.proofs.unpack_all.Goals as goal

pub loop-g-init : goal.loop-g-init
unfolding digits
loop-g-init c = (refl, refl, refl)

pub loop-g-preserved : goal.loop-g-preserved
loop-g-preserved c =
    let l = c.loop-g in
    let y = c.put.new.out in
    let room : 8 * l.g + 8 ≤ length l.septets = omega (arith, c.requires, l.invariant.1, c.loop-g-test.true) in (
      refl,
      length_part (8 * l.g) (8 * l.g + 8 - 8 * l.g) l.septets y (omega arith) c.put.auto.out ∙ l.invariant.1,
      group_turn 256 128 7 8 l.g (lit< tt) refl c.args.octets.now l.septets (λ i. (c.type_inv.octets i).fits) l.invariant.2
          (omega arith) _ y room c.number-word.ensures c.put.ensures,
    )

pub number-word-requires-2 : goal.number-word-requires-2
number-word-requires-2 c =
    let o = c.args.octets.now in
    part_word 256 8 (length o - 7 * (length o / 7)) (7 * (length o / 7)) o (lit≤ tt) (omega arith) (λ i. (c.type_inv.octets i).fits)

pub returns : goal.returns
returns c =
    let l = c.loop-g in
    let o = c.args.octets.now in
    let e : l.g ≡ length o / 7 = omega arith in
    group_end 256 128 7 8 (length o / 7) (lit< tt) refl o l.septets (λ i. (c.type_inv.octets i).fits) (rw e at l.invariant.2)
    (omega arith) _ c.put-2.new.out (omega (arith, c.requires, l.invariant.1)) c.number-word-2.ensures c.put-2.ensures
    ∙ ap (λ (n : ℕ). digits 128 n (value 256 o)) l.invariant.1
