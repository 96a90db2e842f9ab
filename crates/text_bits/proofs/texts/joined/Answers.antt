-- `joined` meets its contract: the characters passed are the number so far.
use native.Mathlib.Omega.{arith}
use mathlib.Core.Path.{◌≡◌}
use lib.ListN.{length}
use lib.Pow.{pow_pos}
use Rattle.text_bits.proofs.Characters.{joined-none, joined-all, joined-more, joined-small}
use Rattle.text_bits.proofs.Codes.{unit-is}
use Rattle.text_bits.proofs.texts.joined.Goals as goal

pub loop-c-init : goal.loop-c-init
loop-c-init c = joined-none _ _

pub nonzero_rem-value : goal.nonzero_rem-value
nonzero_rem-value c = rw (unit-is c.args.width (omega arith)) (pow_pos c.args.width)

pub overflow_mul-value : goal.overflow_mul-value
overflow_mul-value c =
    let small = joined-small _ _ _ _ c.loop-c.invariant c.loop-c-test.true c.requires.1 in
    rw (unit-is c.args.width (omega arith)) (omega (arith, small))

pub overflow_add-value : goal.overflow_add-value
overflow_add-value c =
    let small = joined-small _ _ _ _ c.loop-c.invariant c.loop-c-test.true c.requires.1 in
    rw (unit-is c.args.width (omega arith)) (omega (arith, small))

pub loop-c-preserved : goal.loop-c-preserved
loop-c-preserved c = rw (unit-is c.args.width (omega arith)) (joined-more _ _ _ _ c.loop-c.invariant c.loop-c-test.true)

pub returns-clause-value : goal.returns-clause-value
returns-clause-value c = joined-all _ _ _ _ c.loop-c.invariant (omega arith)

pub returns-clause-below : goal.returns-clause-below
returns-clause-below c = let e : c.loop-c.c-index ≡ length c.args.group.now = omega arith in rw e at c.loop-c.invariant.below
