-- `read_short` meets its contract: a number of 16 bits, as an i32.
use Rattle.std.proofs.Common.{refl, ◌∙◌, arith}
use Rattle.plate.proofs.Readers.{gives-number}
use Rattle.fields.specs.Places.{field_read}
use Rattle.fields.proofs.Exits.{handed-on}
use Rattle.fields.proofs.Onward.{got-good, then-stopped}
use Rattle.plate_constants.proofs.SignedRead.{signed-got}
use Rattle.plate_constants.proofs.constant.read_short.Goals as goal

pub returns-in_err-value : goal.returns-in_err-value
returns-in_err-value c = handed-on (field_read _) c.from_residual.result c.from_residual.ensures.1 ∙ then-stopped _ _ _ c.in_err-value.ensures

pub short_constant-requires : goal.short_constant-requires
short_constant-requires c = got-good _ (gives-number 16) c.in_ok-value.ensures

pub returns : goal.returns
returns c =
    let e = c.in_ok-value.ensures in
    signed-got 16 refl (omega arith) _ _ _ _ (got-good _ (gives-number 16) e) e c.short_constant.ensures
