-- `offer` meets its contract: at each turn of the loop what is left to do is the question with so many wrong answers.
use native.Mathlib.Omega.{arith}
use native.Mathlib.Numerals.{add-one}
use borrow.Author.Rules.{rules}
use mathlib.Core.Path.{refl, sym, ◌∙◌}
use Rattle.transcript.specs.Perform.{perform}
use Rattle.statements.proofs.Tries.{lay-left, lay-again}
use Rattle.walk_blocks.proofs.perform.offer.Goals as goal

pub loop-end-init : goal.loop-end-init
loop-end-init c = (search rules, search rules, refl, refl)

pub put_choices-behind-requires : goal.put_choices-behind-requires
put_choices-behind-requires c = omega (arith, c.requires.1)

pub choose-t-requires : goal.choose-t-requires
choose-t-requires c = (c.requires.0, omega (arith, c.requires.3, c.loop-end.invariant.1))

pub loop-end-smaller : goal.loop-end-smaller
loop-end-smaller c = omega (arith, c.loop-end.invariant.0)

pub loop-end-preserved : goal.loop-end-preserved
loop-end-preserved c =
    let again = sym c.choose-t.ensures.again_value.0 ∙ c.if-t.true in
    let l = lay-again _ _ _ _ _ _ _ _ _ _ _ _ _ _ _ c.put_choices-behind.ensures c.choose-t.ensures.out_after c.requires.1 (omega (arith, c.well_formed, c.loop-end.invariant.2)) (omega (arith, c.well_formed, c.loop-end.invariant.2)) again in
    (omega (arith, l.1), omega (arith, c.choose-t.ensures.again_value.1, c.loop-end.invariant.1), search rules, rw add-one (l.0 ∙ c.loop-end.invariant.3))

pub returns-else-t : goal.returns-else-t
unfolding perform
returns-else-t c =
    let last = sym c.choose-t.ensures.again_value.0 ∙ c.if-t.false in
    let l = lay-left _ _ _ _ _ _ _ _ _ _ _ _ _ _ _ c.put_choices-behind.ensures c.choose-t.ensures.out_after c.requires.1 (omega (arith, c.well_formed, c.loop-end.invariant.2)) (omega (arith, c.well_formed, c.loop-end.invariant.2)) last in
    record { out_after = l ∙ c.loop-end.invariant.3; steps_bound = omega (arith, c.choose-t.ensures.again_value.1, c.loop-end.invariant.0, c.loop-end.invariant.1) }
