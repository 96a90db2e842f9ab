-- `pass_input` meets its contract: the register, then the text.
use Rattle.std.proofs.Common.{ap, ◌∙◌}
use Rattle.fields.specs.Places.{field_read, measured}
use Rattle.fields.proofs.Exits.{handed-on}
use Rattle.fields.proofs.Onward.{then-got, then-stopped}
use Rattle.instructions.proofs.FieldsRead.{room_of, input-sized}
use Rattle.instructions.proofs.passing.pass_input.Goals as goal

pub returns-in_err-register : goal.returns-in_err-register
returns-in_err-register c =
    handed-on (field_read _) c.from_residual.result c.from_residual.ensures.1
    ∙ ap (measured room_of) (then-stopped _ _ _ c.in_err-register.ensures)

pub returns : goal.returns
returns c =
    c.pass_text.ensures ∙ input-sized _ _ _
    ∙ ap (measured room_of) (then-got _ _ _ c.in_ok-register.ensures)
