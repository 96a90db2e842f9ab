-- `perform_head` meets its contract, by cases on the head.
use mathlib.Core.Path.{refl, ap, ◌∙◌}
use native.Mathlib.Omega.{arith}
use Rattle.text.specs.Parts.{join}
use Rattle.transcript.specs.Statement.{input, print, printex}
use Rattle.transcript.specs.State.{line_bytes}
use Rattle.fields.specs.Places.{end_with}
use Rattle.statements.proofs.Performs.{lay-perform}
use Rattle.instructions.proofs.Headed.{input-text, input-is, input-end, print-text, print-is, print-end, printex-text, printex-is, printex-end, goto-is, goto-read, if-is, if-read}
use Rattle.run_steps.proofs.Performing.{lay-statement, over-statement}
use Rattle.run_steps.proofs.Meeting.{lay-goto, over-goto, lay-if, over-if}
use borrow.Author.Rules.{rules}
use Rattle.run_steps.proofs.perform_head.Goals as goal

pub put_line-line-requires : goal.put_line-line-requires
put_line-line-requires c = (search rules, input-text _ _ _ refl c.requires.2 c.in-Input.is)

pub answer-requires : goal.answer-requires
answer-requires c = (simp c.in-Input.is at c.requires.1, search rules)

pub offer-requires : goal.offer-requires
offer-requires c =
    (search rules, simp c.in-Inputs.is at c.requires.1, rw c.in-Inputs.is at c.requires.2, search rules)

pub put_line-line-requires-in-Print : goal.put_line-line-requires-in-Print
put_line-line-requires-in-Print c = (search rules, print-text _ _ _ refl c.requires.2 c.in-Print.is)

pub put_line-line-requires-in-Printex : goal.put_line-line-requires-in-Printex
put_line-line-requires-in-Printex c = (search rules, printex-text _ _ _ refl c.requires.2 c.in-Printex.is)

pub accepted_if-requires : goal.accepted_if-requires
accepted_if-requires c =
    let fits = simp c.in-IfSkip.is at c.requires.1 in
    (c.requires.0, fits.0, fits.1)

pub returns-in-Input : goal.returns-in-Input
unfolding line_bytes join
returns-in-Input c =
    let is = input-is _ _ _ refl c.requires.2 c.in-Input.is in
    record { out_after = lay-statement is _ _ _ _ (lay-perform _ _ _ (input _ _) _ _ _ _ _ c.put_line-line.ensures.out_after c.answer.ensures.out_after (omega (arith, c.well_formed))); over_value = (c.answer.ensures.over_value.0 ∙ over-statement is _, omega (arith, c.answer.ensures.over_value.2)); next_value = rw c.answer.ensures.over_value.1 c.put_line-line.ensures.next_value ∙ input-end _ _ _ refl c.in-Input.is }

pub returns-in-Inputs : goal.returns-in-Inputs
returns-in-Inputs c = rw c.in-Inputs.is record { out_after = c.offer.ensures.out_after; over_value = (c.offer.ensures.steps_bound.0 _, c.offer.ensures.steps_bound.1); next_value = c.offer.ensures.next_value }

pub returns-in-Print : goal.returns-in-Print
unfolding line_bytes join
returns-in-Print c =
    let is = print-is _ _ _ refl c.requires.2 c.in-Print.is in
    record { out_after = lay-statement is _ _ _ _ (lay-perform _ _ _ (print _) _ _ _ _ _ c.put_line-line-in-Print.ensures.out_after (c.leave.ensures.out_value _ _ _) (omega (arith, c.well_formed))); over_value = (c.leave.ensures.over_value.0 ∙ over-statement is _, omega (arith, c.leave.ensures.over_value.2)); next_value = rw c.leave.ensures.over_value.1 c.put_line-line-in-Print.ensures.next_value ∙ print-end _ _ _ refl c.in-Print.is }

pub returns-in-Printex : goal.returns-in-Printex
unfolding line_bytes join
returns-in-Printex c =
    let is = printex-is _ _ _ refl c.requires.2 c.in-Printex.is in
    record { out_after = lay-statement is _ _ _ _ (lay-perform _ _ _ (printex _) _ _ _ _ _ c.put_line-line-in-Printex.ensures.out_after (c.leave-in-Printex.ensures.out_value _ _ _) (omega (arith, c.well_formed))); over_value = (c.leave-in-Printex.ensures.over_value.0 ∙ over-statement is _, omega (arith, c.leave-in-Printex.ensures.over_value.2)); next_value = rw c.leave-in-Printex.ensures.over_value.1 c.put_line-line-in-Printex.ensures.next_value ∙ printex-end _ _ _ refl c.in-Printex.is }

pub returns-in-Goto : goal.returns-in-Goto
returns-in-Goto c =
    let is = goto-is _ _ _ refl c.in-Goto.is in
    record { out_after = lay-goto is _ _ _ _ _ (c.go_on.ensures.out_value _ _ _) (c.stepped.ensures.result_value _ _); over_value = (c.go_on.ensures.over_value.0 ∙ over-goto is _, omega (arith, c.go_on.ensures.over_value.2, c.stepped.ensures.taken_value.1)); next_value = rw c.go_on.ensures.over_value.1 (ap (end_with 0) (goto-read _ _ _ refl c.in-Goto.is)) }

pub returns-in-IfSkip : goal.returns-in-IfSkip
returns-in-IfSkip c =
    let is = if-is _ _ _ refl c.requires.2 _ c.in-IfSkip.is c.accepted_if.ensures.next_value in
    record { out_after = lay-if _ _ _ is _ _ _ (c.decide.ensures.out_value _ _); over_value = (over-if _ _ _ is (c.decide.ensures.over_value _), omega (arith, c.decide.ensures.next_value.1)); next_value = rw c.decide.ensures.next_value.0 (ap (end_with 0) (if-read _ _ _ refl c.requires.2 _ c.in-IfSkip.is c.accepted_if.ensures.next_value)) }
