-- `block`, `statement`, `true_block` and `no_block` meet their contracts: each return, and each turn of the loop, is a law of
-- proofs/Cycle.antt or of proofs/LineStatements.antt.
use borrow.Author.Rules.{rules}
use mathlib.Core.Path.{refl, sym, ap, ◌∙◌}
use native.Mathlib.Omega.{arith}
use Rattle.lines.specs.declared.Form.TheVariants.{Guide as a_guide}
use Rattle.lines.specs.Line.{Line}
use mathlib.Core.List.{List}
use Rattle.guide.specs.Lines.{first_role, begins_by}
use Rattle.guide.proofs.Reading.{begins-less}
use Rattle.guide.proofs.Passing.{passed-no-more}
use Rattle.walk_blocks.proofs.Leaving.{leaves-as, leaves-performed, paced-here, paced-from}
use Rattle.walk_blocks.proofs.LineStatements.{line-says, line-performs, if-test, if-walks}
use Rattle.walk_blocks.proofs.Cycle.{block-ends, block-ended, block_goes}
use Rattle.walk_blocks.proofs.Cycle.{true-ended, true-goes, no-else, else-ended, else-goes}
use Rattle.walk_blocks.proofs.blocks.+block_no_block_statement_true_block.Goals as goal

pub block-loop-h-init : goal.block-loop-h-init
block-loop-h-init t c = ((λ w rs o f. f), search rules, search rules, search rules, refl, search rules)

pub block-statement-w-requires : goal.block-statement-w-requires
block-statement-w-requires t c =
    let v = sym c.begins.ensures ∙ c.if-not-begins.false in
    let r = c.in-Some.ensures.reads in
    let k = begins-less _ _ _ _ r v in
    (omega arith, (c.in-Some.ensures.first.stands, v, omega arith, r.clean))

pub block-loop-h-smaller : goal.block-loop-h-smaller
block-loop-h-smaller t c =
    let k = begins-less _ _ _ _ c.in-Some.ensures.reads (sym c.begins.ensures ∙ c.if-not-begins.false) in
    omega (arith, c.statement-w.ensures.paced.lines)

pub block-loop-h-preserved : goal.block-loop-h-preserved
block-loop-h-preserved t c =
    let i = c.loop-h.invariant in
    let r = c.in-Some.ensures in
    let v = sym c.begins.ensures ∙ c.if-not-begins.false in
    let k = begins-less _ _ _ _ r.reads v in
    let p = c.statement-w.ensures.paced in
    ((λ w rs o f. i.0 w rs o (block_goes _ _ _ _ c.loop-h.place _ _ r v _ _ _ c.statement-w.ensures.leaves_from _ _ _ (sym c.goes_on.ensures ∙ c.if-not-goes_on.false) p.lines f (omega (arith, c.well_formed, i.4)))), p.within, p.steps, omega (arith, p.lines, i.3), search rules, p.clean)

pub block-returns-then-not-goes_on : goal.block-returns-then-not-goes_on
block-returns-then-not-goes_on t c =
    let i = c.loop-h.invariant in
    let r = c.in-Some.ensures in
    let v = sym c.begins.ensures ∙ c.if-not-begins.false in
    let k = begins-less _ _ _ _ r.reads v in
    record {
      leaves_from = i.0 _ _ _ (block-ended _ _ _ _ c.loop-h.place _ _ r v _ _ _ c.statement-w.ensures.leaves_from (sym c.goes_on.ensures ∙ c.if-not-goes_on.true));
      paced = paced-from _ _ _ _ c.statement-w.ensures.paced (omega (arith, i.3));
    }

pub block-returns-then-not-begins : goal.block-returns-then-not-begins
block-returns-then-not-begins t c =
    let v = ap begins_by (sym c.in-Some.ensures.reads.role) ∙ sym c.begins.ensures ∙ c.if-not-begins.true in
    record {
      leaves_from = c.loop-h.invariant.0 _ _ _ (block-ends _ _ _ _ c.loop-h.place _ _ _ _ v (c.here-then-not-begins.ensures.by_index _ _ _ _));
      paced = paced-here _ _ _ _ c.here-then-not-begins.ensures.place_value.0 (omega arith) (omega arith) (omega arith) c.loop-h.invariant.5;
    }

pub block-returns-in_default : goal.block-returns-in_default
block-returns-in_default t c =
    let v = ap (λ (ls : List Line). begins_by (first_role ls)) c.in_default.ensures in
    record {
      leaves_from = c.loop-h.invariant.0 _ _ _ (block-ends _ _ _ _ c.loop-h.place _ _ _ _ v (c.here.ensures.by_index _ _ _ _));
      paced = paced-here _ _ _ _ c.here.ensures.place_value.0 (omega arith) (omega arith) (omega arith) c.loop-h.invariant.5;
    }

pub no_block-block-w-requires : goal.no_block-block-w-requires
no_block-block-w-requires t c =
    let r = c.role_at-h.ensures in
    let l = passed-no-more _ _ _ _ _ c.pass_over.ensures.result_value r in
    (omega arith, (search rules, omega arith, search rules))

pub no_block-returns-then-goes_on : goal.no_block-returns-then-goes_on
no_block-returns-then-goes_on t c =
    let v = sym c.is_else.ensures ∙ c.if-not-is_else.false in
    let e = c.pass_over.ensures.result_value in
    let r = c.role_at-h.ensures in
    let l = passed-no-more _ _ _ _ _ e r in
    record {
      leaves_from = else-goes _ _ _ _ c.args.a _ _ _ _ e r v _ _ _ c.block-w.ensures.leaves_from _ _ _ (sym c.goes_on.ensures ∙ c.if-goes_on.true) (c.leave_else.ensures.leaves _ _ _) (omega (arith, c.well_formed));
      paced = paced-from _ _ _ _ c.leave_else.ensures.paced (omega (arith, c.block-w.ensures.paced.lines));
    }

pub no_block-returns : goal.no_block-returns
no_block-returns t c =
    let v = sym c.is_else.ensures ∙ c.if-not-is_else.false in
    let e = c.pass_over.ensures.result_value in
    let r = c.role_at-h.ensures in
    record {
      leaves_from = else-ended _ _ _ _ c.args.a _ _ _ _ e r v _ _ _ c.block-w.ensures.leaves_from (sym c.goes_on.ensures ∙ c.if-goes_on.false);
      paced = paced-from _ _ _ _ c.block-w.ensures.paced (omega (arith, passed-no-more _ _ _ _ _ e r));
    }

pub no_block-returns-then-not-is_else : goal.no_block-returns-then-not-is_else
no_block-returns-then-not-is_else t c =
    let e = c.pass_over.ensures.result_value in
    let r = c.role_at-h.ensures in
    let l = passed-no-more _ _ _ _ _ e r in
    record {
      leaves_from = no-else _ _ _ _ c.args.a _ _ _ _ e r _ _ _ (sym c.is_else.ensures ∙ c.if-not-is_else.true) (c.here.ensures.by_index _ _ _ _);
      paced = paced-here _ _ _ _ c.here.ensures.place_value.0 (omega arith) (omega arith) (omega arith) r.clean;
    }

pub statement-perform-requires : goal.statement-perform-requires
statement-perform-requires t c =
    let s = c.requires.0 in
    (line-says _ _ s.head (ap begins_by (sym s.role) ∙ c.requires.1) c.in_default.not-If, (a_guide, s.head), omega arith)

pub statement-returns-in_default : goal.statement-returns-in_default
statement-returns-in_default t c =
    let s = c.requires.0 in
    let b = ap begins_by (sym s.role) ∙ c.requires.1 in
    record {
      leaves_from = λ n l. leaves-as _ _ _ _ _ _ _ _ (leaves-performed _ _ _ _ _ _ _ _ _ c.perform.ensures.out_after) _ (line-performs _ _ s.head b c.in_default.not-If _ _ _);
      paced = record { steps = omega arith; lines = omega arith; within = s.within; clean = c.requires.3 };
    }

pub statement-holds-requires : goal.statement-holds-requires
statement-holds-requires t c = (if-test _ _ c.requires.0.head _ c.in-If.is).0

pub statement-true_block-requires : goal.statement-true_block-requires
statement-true_block-requires t c = (search rules, (search rules, search rules, search rules))

pub statement-no_block-requires : goal.statement-no_block-requires
statement-no_block-requires t c = (search rules, (search rules, search rules, search rules))

pub statement-returns-then-holds : goal.statement-returns-then-holds
statement-returns-then-holds t c =
    record {
      leaves_from = λ n l. leaves-as _ _ _ _ _ _ _ _ (rw (c.stepped-n.ensures.result_value _ _) at (c.true_block.ensures.leaves_from n l)) _ (if-walks _ _ c.requires.0.head _ c.in-If.is _ _ _ _ (sym c.if-holds.true ∙ c.holds.ensures _ _));
      paced = c.true_block.ensures.paced;
    }

pub statement-returns : goal.statement-returns
statement-returns t c =
    record {
      leaves_from = λ n l. leaves-as _ _ _ _ _ _ _ _ (rw (c.stepped-n.ensures.result_value _ _) at (c.no_block.ensures.leaves_from n l)) _ (if-walks _ _ c.requires.0.head _ c.in-If.is _ _ _ _ (sym c.if-holds.false ∙ c.holds.ensures _ _));
      paced = c.no_block.ensures.paced;
    }

pub true_block-returns-then-goes_on : goal.true_block-returns-then-goes_on
true_block-returns-then-goes_on t c =
    record {
      leaves_from = true-goes _ _ _ _ c.args.a _ _ _ _ c.block-w.ensures.leaves_from _ _ _ (sym c.goes_on.ensures ∙ c.if-goes_on.true) (c.leave_true.ensures.leaves _ _ _) (omega (arith, c.well_formed));
      paced = paced-from _ _ _ _ c.leave_true.ensures.paced c.block-w.ensures.paced.lines;
    }

pub true_block-returns : goal.true_block-returns
true_block-returns t c =
    record {
      leaves_from = true-ended _ _ _ _ c.args.a _ _ _ _ c.block-w.ensures.leaves_from (sym c.goes_on.ensures ∙ c.if-goes_on.false);
      paced = c.block-w.ensures.paced;
    }
