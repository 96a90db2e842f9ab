-- `read_constant` meets its contract: the code, then the length that it calls for.
use Rattle.std.proofs.Common.{◌∙◌}
use Rattle.plate.specs.Plate.{constant}
use Rattle.fields.specs.Places.{field_read}
use Rattle.fields.proofs.Exits.{handed-on}
use Rattle.fields.proofs.Onward.{then-stopped}
use Rattle.plate_constants.proofs.SignedRead.{constant-code, constant-short, constant-long}
use Rattle.plate_constants.proofs.constant.read_constant.Goals as goal

pub returns-in_err-code : goal.returns-in_err-code
unfolding constant
returns-in_err-code c =
    handed-on (field_read _) c.from_residual.result c.from_residual.ensures.1
    ∙ then-stopped _ _ _ (c.in_err-code.ensures ∙ constant-code _ _)

pub returns-then-code-eq0 : goal.returns-then-code-eq0
returns-then-code-eq0 c = c.read_short.ensures ∙ constant-short _ _ _ _ c.in_ok-code.ensures c.if-code-eq0.true

pub returns-else-code-eq0 : goal.returns-else-code-eq0
returns-else-code-eq0 c = c.read_long.ensures ∙ constant-long _ _ _ _ c.in_ok-code.ensures c.if-code-eq0.false
