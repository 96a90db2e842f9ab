-- `read_test` meets its contract: three fields, one after the other.
use Rattle.std.proofs.Common.{◌∙◌, rules}
use mir.Syntax.{w32}
use mir.Facts.{to_z-of_z}
use Rattle.plate.specs.Plate.{test}
use Rattle.plate_constants.proofs.Ops.{test-made}
use Rattle.fields.specs.Places.{field_read}
use Rattle.fields.proofs.Exits.{handed-on}
use Rattle.fields.proofs.Onward.{then-got, then-stopped}
use Rattle.plate_constants.proofs.tests.read_test.Goals as goal

pub returns-in_err-register : goal.returns-in_err-register
unfolding test
returns-in_err-register c =
    handed-on (field_read _) c.from_residual.result c.from_residual.ensures.1 ∙ then-stopped _ _ _ c.in_err-register.ensures

pub returns-in_err-code : goal.returns-in_err-code
unfolding test
returns-in_err-code c =
    handed-on (field_read _) c.from_residual-in_err-code.result c.from_residual-in_err-code.ensures.1
    ∙ then-stopped _ _ _ c.in_err-code.ensures ∙ then-got _ _ _ c.in_ok-register.ensures

pub returns-in_err-constant : goal.returns-in_err-constant
unfolding test
returns-in_err-constant c =
    handed-on (field_read _) c.from_residual-in_err-constant.result c.from_residual-in_err-constant.ensures.1
    ∙ then-stopped _ _ _ c.in_err-constant.ensures ∙ then-got _ _ _ c.in_ok-code.ensures ∙ then-got _ _ _ c.in_ok-register.ensures

pub returns : goal.returns
unfolding test
returns c =
    let fits = to_z-of_z {w = w32} {z = c.in_ok-constant.constant.value} (record { sfits = search rules }) in
    test-made _ _ c.op_of.ensures fits
    ∙ then-got _ _ _ c.in_ok-constant.ensures ∙ then-got _ _ _ c.in_ok-code.ensures ∙ then-got _ _ _ c.in_ok-register.ensures
