-- `read_long` meets its contract: a number of 32 bits, judged at its first bit.
use Rattle.std.proofs.Common.{refl, sym, ap, ◌∙◌, not, arith}
use Rattle.plate.specs.Plate.{long}
use Rattle.plate.proofs.Readers.{gives-number}
use Rattle.fields.specs.Places.{field_read}
use Rattle.fields.proofs.Exits.{handed-on}
use Rattle.fields.proofs.Onward.{got-good, then-stopped, judged-got, judged-not, judged-stopped}
use Rattle.plate_constants.proofs.SignedRead.{signed-got}
use Rattle.plate_constants.proofs.constant.read_long.Goals as goal

pub returns-in_err-value : goal.returns-in_err-value
returns-in_err-value c =
    handed-on (field_read _) c.from_residual.result c.from_residual.ensures.1
    ∙ judged-stopped _ _ _ _ _ (then-stopped _ _ _ c.in_err-value.ensures)

pub long_constant-constant-requires : goal.long_constant-constant-requires
long_constant-constant-requires c = got-good _ (gives-number 32) c.in_ok-value.ensures

pub returns-then-is_short : goal.returns-then-is_short
returns-then-is_short c =
    let e = c.in_ok-value.ensures in
    let l = signed-got 32 refl (omega arith) _ _ _ _ (got-good _ (gives-number 32) e) e c.long_constant-constant.ensures in
    judged-not long _ _ _ _ l (ap not (sym c.is_short.ensures ∙ c.if-is_short.true))

pub returns : goal.returns
returns c =
    let e = c.in_ok-value.ensures in
    let l = signed-got 32 refl (omega arith) _ _ _ _ (got-good _ (gives-number 32) e) e c.long_constant-constant.ensures in
    judged-got long _ _ _ _ l (ap not (sym c.is_short.ensures ∙ c.if-is_short.false))
