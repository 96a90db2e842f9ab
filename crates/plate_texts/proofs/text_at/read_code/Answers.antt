-- `read_code` meets its contract: a number of 2 bits, judged.
use Rattle.std.proofs.Common.{◌≡◌, sym, ◌∙◌, ◌+◌, arith}
use Rattle.fields.specs.Places.{field_read}
use Rattle.fields.proofs.Exits.{handed-on}
use Rattle.fields.proofs.Onward.{judged-got, judged-not, judged-stopped}
use Rattle.plate_texts.proofs.text_at.read_code.Goals as goal

pub returns-in_err-field : goal.returns-in_err-field
returns-in_err-field c =
    let same : c.args.at + 0 ≡ c.args.at = omega arith in
    handed-on (field_read _) c.from_residual.result c.from_residual.ensures.1
    ∙ judged-stopped _ _ _ _ _ (rw same at c.in_err-field.ensures)

pub returns-then-is_code : goal.returns-then-is_code
returns-then-is_code c =
    let same : c.args.at + 0 ≡ c.args.at = omega arith in
    judged-got _ _ _ _ _ (rw same at c.in_ok-field.ensures) (sym c.is_code.ensures ∙ c.if-is_code.true)

pub returns-else-is_code : goal.returns-else-is_code
returns-else-is_code c =
    let same : c.args.at + 0 ≡ c.args.at = omega arith in
    judged-not _ _ _ _ _ (rw same at c.in_ok-field.ensures) (sym c.is_code.ensures ∙ c.if-is_code.false)
