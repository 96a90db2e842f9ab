-- `read_field` meets its contract: three ways out, each by one law of judged readers.
use borrow.Author.Tests.{le-leb, lt-leb}
use Rattle.fields.proofs.Onward.{judged-got, judged-not, judged-stopped}
use Rattle.fields.proofs.Exits.{handed-on}
use mathlib.Core.Path.{◌∙◌}
use Rattle.fields.specs.Places.{field_read}
use Rattle.fields.proofs.numbers.read_field.Goals as goal

pub returns-in_err-field : goal.returns-in_err-field
returns-in_err-field c = handed-on (field_read _) c.from_residual.result c.from_residual.ensures.1 ∙ judged-stopped _ _ _ _ _ c.in_err-field.ensures

pub returns-then-most-field : goal.returns-then-most-field
returns-then-most-field c = judged-not _ _ _ _ _ c.in_ok-field.ensures (lt-leb _ _ c.if-most-field.true)

pub returns : goal.returns
returns c = judged-got _ _ _ _ _ c.in_ok-field.ensures (le-leb _ _ c.if-most-field.false)
