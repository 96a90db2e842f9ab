-- `run_from` meets its contract. The loop: the run of the instructions that are left, behind what is written, is the whole run.
use borrow.Author.Rules.{rules}
use mathlib.Core.Path.{refl, ◌∙◌}
use native.Mathlib.Omega.{arith}
use Rattle.run.proofs.Going.{following, instruction-known, lay-stopped, lay-onward, lay_done}
use Rattle.run.proofs.passes.run_from.Goals as goal

pub loop-left-init : goal.loop-left-init
loop-left-init c = (c.requires.1, refl, c.requires.2, c.requires.3, search rules, refl)

pub meet-met-requires : goal.meet-met-requires
meet-met-requires c = (c.requires.0, instruction-known _ _ _ _ c.loop-left.invariant.0 (search rules), omega (arith, c.loop-left.invariant.3))

pub loop-left-preserved : goal.loop-left-preserved
loop-left-preserved c = let f = following _ _ _ _ c.loop-left.invariant.0 _ (search rules) c.meet-met.ensures.next_value in
    (f.others, lay-onward _ _ _ _ _ _ _ _ _ c.meet-met.ensures.out_after _ _ f.split _ c.in-End.is c.meet-met.ensures.over_value.0 (omega (arith, c.well_formed)) ∙ c.loop-left.invariant.1, c.in-End.is, omega (arith, c.loop-left.invariant.3, c.meet-met.ensures.over_value.1), search rules, search rules)

pub returns : goal.returns
returns c = lay_done _ _ _ _ c.loop-left.invariant.0 _ _ _ _ _ c.loop-left.invariant.2 (omega arith) (omega arith) ∙ c.loop-left.invariant.1

pub returns-in_default : goal.returns-in_default
returns-in_default c =
    let f = following _ _ _ _ c.loop-left.invariant.0 _ (search rules) c.meet-met.ensures.next_value in
    lay-stopped _ _ _ _ _ _ _ _ _ c.meet-met.ensures.out_after _ _ f.split c.in_default.not-End ∙ c.loop-left.invariant.1
