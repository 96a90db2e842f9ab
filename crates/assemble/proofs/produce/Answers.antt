-- `produce` meets its contract: behind the front, the instructions from the place a on are left to write, and before a no skip goes past;
-- the filling comes last.
use Prim.Native.Nat.{◌-◌}
use native.Mathlib.Omega.{arith}
use mathlib.Core.Path.{refl, ap}
use borrow.Author.Rules.{rules}
use Rattle.plate.specs.Writing.{instructions_bits, program_bits}
use Rattle.text_bits.proofs.Writes.{both, begun, turned, done}
use Rattle.plate_room.proofs.Plates.{filling}
use Rattle.assemble.specs.Assembled.{Produced}
use Rattle.assemble.proofs.Ahead.{first-clean}
use Rattle.assemble.proofs.LinesFrom.{all-code, bits-end, bits-next}
use Rattle.assemble.proofs.Searched.{searched-none, searched-end, counts-one, next-number, goes-past, goes_on}
use Rattle.assemble.proofs.produce.Goals as goal

pub loop-a-init : goal.loop-a-init
loop-a-init c =
    let a = c.args in
    (searched-none _ _ _ _ _ c.requires, begun _ _ (ap (instructions_bits a.known.now) (all-code a.form a.skips.now a.text.now a.instructions)) (search rules))

pub find-e-requires : goal.find-e-requires
find-e-requires c = omega (arith, c.loop-a.invariant.0.ahead.within)

pub accepted_line-head-requires : goal.accepted_line-head-requires
accepted_line-head-requires c = first-clean c.loop-a.invariant.0.ahead c.loop-a-test.true c.find-e.ensures.value c.find-e.ensures.upper_bound

pub overflow_sub-behind : goal.overflow_sub-behind
overflow_sub-behind c = counts-one c.loop-a.invariant.0 c.loop-a-test.true c.find-e.ensures.value c.find-e.ensures.upper_bound c.accepted_line-head.ensures c.count_of.ensures

pub overflow_sub-instructions : goal.overflow_sub-instructions
overflow_sub-instructions c = omega (arith, c.loop-a.invariant.0.few)

pub overflow_add-result : goal.overflow_add-result
overflow_add-result c = omega (arith, c.own_count-then-behind-skip.ensures.upper_bound, c.requires.few)

pub overflow_sub-result : goal.overflow_sub-result
overflow_sub-result c = omega (arith, c.loop-a.invariant.0.few)

pub returns-then-behind-skip : goal.returns-then-behind-skip
unfolding Produced
returns-then-behind-skip c =
    (refl, rw c.own_count-then-behind-skip.ensures.value (goes-past c.loop-a.invariant.0 c.loop-a-test.true c.find-e.ensures.value c.find-e.ensures.upper_bound c.accepted_line-head.ensures c.count_of.ensures c.skip_at.ensures c.skip_of-skip.ensures c.if-behind-skip.true))

pub put-end-requires : goal.put-end-requires
put-end-requires c =
    (c.args.form, c.accepted_line-head.ensures)

pub overflow_add-a : goal.overflow_add-a
overflow_add-a c = omega (arith, c.find-e.ensures.upper_bound, c.well_formed)

pub loop-a-preserved : goal.loop-a-preserved
loop-a-preserved c =
    let number = next-number c.loop-a.invariant.0 c.loop-a-test.true c.find-e.ensures.value c.find-e.ensures.upper_bound c.accepted_line-head.ensures c.count_of.ensures in
    let next = bits-next c.loop-a.invariant.0.ahead c.loop-a-test.true c.find-e.ensures.value c.find-e.ensures.upper_bound _ _ _ c.accepted_line-head.ensures c.skip_at.ensures c.skip_of-skip.ensures number in
    (goes_on c.loop-a.invariant.0 c.loop-a-test.true c.find-e.ensures.value c.find-e.ensures.upper_bound c.accepted_line-head.ensures c.count_of.ensures c.skip_at.ensures c.skip_of-skip.ensures c.if-behind-skip.false, turned c.loop-a.invariant.1 _ _ next c.put-end.ensures (omega arith))

pub returns : goal.returns
unfolding Produced program_bits
returns c =
    let a = c.args in
    let lines = done c.loop-a.invariant.1 (bits-end _ a.form a.skips.now a.text.now (a.instructions - c.loop-a.left) _ c.loop-a-test.false) in
    let front = rw (c.own_count.ensures.value, c.own_lines.ensures) at c.put_front-end.ensures in
    let program = both _ _ _ _ front lines (omega arith) in
    (searched-end c.loop-a.invariant.0 c.loop-a-test.false, rw (← c.requires.count) (filling _ _ program c.put_fill.ensures (omega arith)))
