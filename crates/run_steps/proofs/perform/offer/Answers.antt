-- `offer` meets its contract: at each turn of the loop what is left to do is the question with so many wrong answers.
use native.Mathlib.Omega.{arith}
use native.Mathlib.Numerals.{add-one}
use borrow.Author.Rules.{rules}
use Rattle.std.proofs.lemmas.Bool.{not-true, not-false}
use mathlib.Core.Path.{refl, sym, ◌∙◌}
use Rattle.transcript.specs.Perform.{perform}
use Rattle.statements.proofs.Tries.{lay-left, lay-again}
use Rattle.run_steps.proofs.Performing.{lay-statement, over-statement}
use Rattle.run_steps.proofs.perform.offer.Goals as goal

pub loop-t-init : goal.loop-t-init
loop-t-init c = (search rules, search rules, refl, refl)

pub put_choices-line-requires : goal.put_choices-line-requires
put_choices-line-requires c = (c.requires.0, c.requires.2)

pub choose-t-requires : goal.choose-t-requires
choose-t-requires c = (c.requires.1, omega (arith, c.requires.3, c.loop-t.invariant.1))

pub loop-t-smaller : goal.loop-t-smaller
loop-t-smaller c = omega (arith, c.loop-t.invariant.0)

pub loop-t-preserved : goal.loop-t-preserved
loop-t-preserved c =
    let again = sym c.choose-t.ensures.again_value.0 ∙ not-false _ c.if-not-t.false in
    let l = lay-again _ _ _ _ _ _ _ _ _ _ _ _ _ _ _ c.put_choices-line.ensures.out_after c.choose-t.ensures.out_after c.put_choices-line.ensures.offers.1 (omega (arith, c.well_formed, c.loop-t.invariant.2)) (omega (arith, c.well_formed, c.loop-t.invariant.2)) again in
    (omega (arith, l.1), omega (arith, c.choose-t.ensures.again_value.1, c.loop-t.invariant.1), search rules, rw add-one (l.0 ∙ c.loop-t.invariant.3))

pub returns-then-not-t : goal.returns-then-not-t
unfolding perform
returns-then-not-t c =
    let last = sym c.choose-t.ensures.again_value.0 ∙ not-true _ c.if-not-t.true in
    let l = lay-left _ _ _ _ _ _ _ _ _ _ _ _ _ _ _ c.put_choices-line.ensures.out_after c.choose-t.ensures.out_after c.put_choices-line.ensures.offers.1 (omega (arith, c.well_formed, c.loop-t.invariant.2)) (omega (arith, c.well_formed, c.loop-t.invariant.2)) last in
    record { out_after = lay-statement c.put_choices-line.ensures.offers.0 _ _ _ _ (l ∙ c.loop-t.invariant.3); steps_bound = (λ s. over-statement c.put_choices-line.ensures.offers.0 s, omega (arith, c.choose-t.ensures.again_value.1, c.loop-t.invariant.0, c.loop-t.invariant.1)); next_value = c.put_choices-line.ensures.next_value }
