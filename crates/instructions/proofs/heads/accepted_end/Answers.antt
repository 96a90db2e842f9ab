-- `accepted_end` meets its contract: the head, and the end of the texts behind it, which are copied into no buffer.
use Rattle.std.proofs.Common.{subst, ap, ◌∙◌, inl, inr}
use Rattle.fields.specs.Places.{end_with}
use Rattle.instructions.specs.Heads.{HeadFits}
use Rattle.instructions.proofs.HeadRead.{instruction-at}
use Rattle.instructions.proofs.Counted.{options-end}
use Rattle.instructions.proofs.Headed.{input-text, input-end, inputs-text, inputs-options, inputs_end, print-text, print-end, printex-text, printex-end, goto-read, if-read}
use Rattle.instructions.proofs.heads.accepted_end.Goals as goal

pub accepted_head-requires : goal.accepted_head-requires
accepted_head-requires c = (c.requires.0, instruction-at _ _ _ _ c.requires.1 c.requires.0)

pub copy_text-requires : goal.copy_text-requires
copy_text-requires c =
    let head = c.accepted_head.ensures.result_value _ _ c.requires.1 in (
      c.requires.0,
      elim c.in-Input.is [
        | inl w ↦ input-text _ _ _ head c.requires.1 w.1
        | inr (inl w) ↦ print-text _ _ _ head c.requires.1 w
        | inr (inr w) ↦ printex-text _ _ _ head c.requires.1 w
      ],
    )

pub copy_text-options-requires : goal.copy_text-options-requires
copy_text-options-requires c = (c.requires.0, inputs-text _ _ _ (c.accepted_head.ensures.result_value _ _ c.requires.1) c.requires.1 c.in-Inputs.is)

pub copy_options-requires : goal.copy_options-requires
copy_options-requires c = (c.requires.0, inputs-options _ _ _ (c.accepted_head.ensures.result_value _ _ c.requires.1) c.requires.1 c.in-Inputs.is c.copy_text-options.ensures.next_value)

pub accepted_if-requires : goal.accepted_if-requires
accepted_if-requires c =
    let fits = subst (HeadFits _) c.in-IfSkip.is c.accepted_head.ensures.head_fits in
    (c.requires.0, fits.0, fits.1)

pub returns-in-Input : goal.returns-in-Input
returns-in-Input c =
    let head = c.accepted_head.ensures.result_value _ _ c.requires.1 in
    c.copy_text.ensures.next_value
    ∙ elim c.in-Input.is [
      | inl w ↦ input-end _ _ _ head w.1
      | inr (inl w) ↦ print-end _ _ _ head w
      | inr (inr w) ↦ printex-end _ _ _ head w
    ]

pub returns-in-Inputs : goal.returns-in-Inputs
returns-in-Inputs c = options-end _ _ c.copy_options.ensures.next_value ∙ inputs_end _ _ _ (c.accepted_head.ensures.result_value _ _ c.requires.1) c.in-Inputs.is c.copy_text-options.ensures.next_value

pub returns-in-Goto : goal.returns-in-Goto
returns-in-Goto c = ap (end_with 0) (goto-read _ _ _ (c.accepted_head.ensures.result_value _ _ c.requires.1) c.in-Goto.is)

pub returns-in-IfSkip : goal.returns-in-IfSkip
returns-in-IfSkip c = ap (end_with 0) (if-read _ _ _ (c.accepted_head.ensures.result_value _ _ c.requires.1) c.requires.1 _ c.in-IfSkip.is c.accepted_if.ensures.next_value)
