-- `pass_instruction` meets its contract: the code, then the fields that it calls for.
use mathlib.Core.Path.{ap, ◌∙◌}
use native.Mathlib.Omega.{arith}
use Rattle.plate.specs.Plate.{instruction}
use Rattle.fields.specs.Places.{field_read, measured}
use Rattle.fields.proofs.Onward.{then-got, then-stopped}
use Rattle.fields.proofs.Exits.{handed-on}
use Rattle.instructions.proofs.FieldsRead.{room_of, fields-code, fields-last, print-sized, printex-sized}
use Rattle.instructions.proofs.passing.pass_instruction.Goals as goal

pub returns-in_err-code : goal.returns-in_err-code
unfolding instruction
returns-in_err-code c =
    handed-on (field_read _) c.from_residual.result c.from_residual.ensures.1
    ∙ ap (measured room_of) (then-stopped _ _ _ c.in_err-code.ensures)

pub returns-in-0 : goal.returns-in-0
unfolding instruction
returns-in-0 c = c.pass_input.ensures ∙ ap (measured room_of) (fields-code _ _ _ 0 c.in-0.is ∙ then-got _ _ _ c.in_ok-code.ensures)

pub returns-in-1 : goal.returns-in-1
unfolding instruction
returns-in-1 c = c.pass_inputs.ensures ∙ ap (measured room_of) (fields-code _ _ _ 1 c.in-1.is ∙ then-got _ _ _ c.in_ok-code.ensures)

pub returns-in-2 : goal.returns-in-2
unfolding instruction
returns-in-2 c =
    c.pass_text.ensures ∙ print-sized _ _ 0
    ∙ ap (measured room_of) (fields-code _ _ _ 2 c.in-2.is ∙ then-got _ _ _ c.in_ok-code.ensures)

pub returns-in-3 : goal.returns-in-3
unfolding instruction
returns-in-3 c =
    c.pass_text-in-3.ensures ∙ printex-sized _ _ 0
    ∙ ap (measured room_of) (fields-code _ _ _ 3 c.in-3.is ∙ then-got _ _ _ c.in_ok-code.ensures)

pub returns-in-4 : goal.returns-in-4
unfolding instruction
returns-in-4 c = c.pass_goto.ensures c.args.known.now ∙ ap (measured room_of) (fields-code _ _ _ 4 c.in-4.is ∙ then-got _ _ _ c.in_ok-code.ensures)

pub returns-in_default : goal.returns-in_default
unfolding instruction
returns-in_default c =
    c.pass_if.ensures c.args.known.now
    ∙ ap (measured room_of) (fields-last _ _ _ c.in_ok-code.field-0.value (omega arith) (omega arith) (omega arith) (omega arith) (omega arith) ∙ then-got _ _ _ c.in_ok-code.ensures)
