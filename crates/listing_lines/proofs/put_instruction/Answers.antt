-- `put_instruction` meets its contract: the head, and the line of each kind.
use Rattle.listing.specs.Listing.{lines_text}
use Rattle.fields.specs.Places.{place_at}
use Rattle.plate.specs.Plate.{instruction}
use mathlib.Core.Path.{refl, subst, ap, ◌∙◌}
use Rattle.fields.specs.Places.{end_with}
use Rattle.instructions.specs.Heads.{headed, HeadFits}
use Rattle.instructions.proofs.HeadRead.{instruction-at}
use Rattle.text.specs.Parts.{join}
use Rattle.instructions.proofs.Headed.{print-text, print-is, print-end, printex-text, printex-is, printex-end, if-is, if-read}
use Rattle.listing_lines.proofs.HeadLines.{line-is, head-known, head-line}
use Rattle.listing_lines.proofs.put_instruction.Goals as goal

pub accepted_head-requires : goal.accepted_head-requires
accepted_head-requires c = (c.requires.0, instruction-at _ _ _ _ c.requires.1 c.requires.0)

pub put_input-requires : goal.put_input-requires
put_input-requires c = (c.requires.0, subst (HeadFits _) c.in-Input.is c.accepted_head.ensures.head_fits, head-known _ _ (c.accepted_head.ensures.result_value _ _ c.requires.1) c.in-Input.is c.requires.1)

pub put_inputs-requires : goal.put_inputs-requires
put_inputs-requires c = (c.requires.0, subst (HeadFits _) c.in-Inputs.is c.accepted_head.ensures.head_fits, head-known _ _ (c.accepted_head.ensures.result_value _ _ c.requires.1) c.in-Inputs.is c.requires.1)

pub put_goto-requires : goal.put_goto-requires
put_goto-requires c = subst (HeadFits _) c.in-Goto.is c.accepted_head.ensures.head_fits

pub accepted_if-read-requires : goal.accepted_if-read-requires
accepted_if-read-requires c =
    let fits = subst (HeadFits _) c.in-IfSkip.is c.accepted_head.ensures.head_fits in
    (c.requires.0, fits.0, fits.1)

pub returns-in-Input : goal.returns-in-Input
returns-in-Input c =
    let line = head-line _ _ (c.accepted_head.ensures.result_value _ _ c.requires.1) c.in-Input.is _ (c.put_input.ensures.tail_after, c.put_input.ensures.next_value) in
    record { tail_after = line.0; next_value = line.1 }

pub returns-in-Inputs : goal.returns-in-Inputs
returns-in-Inputs c =
    let line = head-line _ _ (c.accepted_head.ensures.result_value _ _ c.requires.1) c.in-Inputs.is _ (c.put_inputs.ensures.tail_after, c.put_inputs.ensures.next_value) in
    record { tail_after = line.0; next_value = line.1 }

pub returns-in-Goto : goal.returns-in-Goto
unfolding instruction place_at lines_text headed
returns-in-Goto c =
    let line = head-line _ _ (c.accepted_head.ensures.result_value _ _ c.requires.1) c.in-Goto.is _ (c.put_goto.ensures, refl) in
    record { tail_after = line.0; next_value = line.1 }

pub returns-in-IfSkip : goal.returns-in-IfSkip
returns-in-IfSkip c = let e = c.accepted_head.ensures.result_value _ _ c.requires.1 in
    record { tail_after = line-is _ (if-is _ _ _ e c.requires.1 _ c.in-IfSkip.is c.accepted_if-read.ensures.next_value) c.put_if.ensures; next_value = ap (end_with 0) (if-read _ _ _ e c.requires.1 _ c.in-IfSkip.is c.accepted_if-read.ensures.next_value) }

pub put_text_line-requires : goal.put_text_line-requires
put_text_line-requires c =
    let head = c.accepted_head.ensures.result_value _ _ c.requires.1 in
    (c.requires.0, print-text _ _ _ head c.requires.1 c.in-Print.is)

pub returns-in-Print : goal.returns-in-Print
unfolding lines_text join
returns-in-Print c =
    let head = c.accepted_head.ensures.result_value _ _ c.requires.1 in
    record {
      tail_after = line-is _ (print-is _ _ _ head c.requires.1 c.in-Print.is) c.put_text_line.ensures.tail_after;
      next_value = c.put_text_line.ensures.next_value ∙ print-end _ _ _ head c.in-Print.is;
    }

pub put_text_line-requires-in-Printex : goal.put_text_line-requires-in-Printex
put_text_line-requires-in-Printex c =
    let head = c.accepted_head.ensures.result_value _ _ c.requires.1 in
    (c.requires.0, printex-text _ _ _ head c.requires.1 c.in-Printex.is)

pub returns-in-Printex : goal.returns-in-Printex
unfolding lines_text join
returns-in-Printex c =
    let head = c.accepted_head.ensures.result_value _ _ c.requires.1 in
    record {
      tail_after = line-is _ (printex-is _ _ _ head c.requires.1 c.in-Printex.is) c.put_text_line-in-Printex.ensures.tail_after;
      next_value = c.put_text_line-in-Printex.ensures.next_value ∙ printex-end _ _ _ head c.in-Printex.is;
    }
