-- `pass_inputs` meets its contract: four fields, one after the other.
use Rattle.std.proofs.Common.{ap, ◌∙◌, arith}
use Rattle.plate.proofs.Readers.{gives-number, gives-judged}
use Rattle.fields.specs.Places.{field_read, measured}
use Rattle.fields.proofs.Exits.{handed-on}
use Rattle.fields.proofs.Onward.{then-got, then-stopped, got-good}
use Rattle.plate_texts.proofs.Ended.{measured-some, measured-stopped}
use Rattle.plate_texts.proofs.OptionsRead.{options-read}
use Rattle.instructions.proofs.FieldsRead.{room_of, options-refused, inputs-sized}
use Rattle.instructions.proofs.passing.pass_inputs.Goals as goal

pub returns-in_err-register : goal.returns-in_err-register
returns-in_err-register c =
    handed-on (field_read _) c.from_residual.result c.from_residual.ensures.1
    ∙ ap (measured room_of) (then-stopped _ _ _ c.in_err-register.ensures)

pub returns-in_err-text : goal.returns-in_err-text
returns-in_err-text c =
    handed-on (field_read _) c.from_residual-in_err-text.result c.from_residual-in_err-text.ensures.1
    ∙ ap (measured room_of) (then-stopped _ _ _ (measured-stopped _ _ c.in_err-text.ensures)
    ∙ then-got _ _ _ c.in_ok-register.ensures)

pub returns-in_err-options : goal.returns-in_err-options
returns-in_err-options c =
    handed-on (field_read _) c.from_residual-in_err-options.result c.from_residual-in_err-options.ensures.1
    ∙ ap (measured room_of) (then-stopped _ _ _ (options-refused _ _ c.in_err-options.ensures)
    ∙ then-got _ _ _ (measured-some _ _ _ _ c.in_ok-text.ensures).1
    ∙ then-got _ _ _ c.in_ok-register.ensures)

pub overflow_add-n : goal.overflow_add-n
overflow_add-n c = let few = got-good _ (gives-judged _ _ (gives-number 3)) c.in_ok-options.ensures in omega (arith, few.0)

pub returns : goal.returns
returns c =
    let t = measured-some _ _ _ _ c.in_ok-text.ensures in
    let k = c.in_ok-options.ensures in
    c.pass_texts.ensures ∙ ap (measured _) (options-read _ _ _ _ k) ∙ inputs-sized _ _ _ _ _ t.2
    ∙ ap (measured room_of) (then-got _ _ _ t.1 ∙ then-got _ _ _ c.in_ok-register.ensures)
