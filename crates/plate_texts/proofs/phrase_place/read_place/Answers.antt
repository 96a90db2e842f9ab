-- `read_place` meets its contract: a number, judged.
use Rattle.std.proofs.Common.{◌∙◌, arith}
use borrow.Author.Tests.{lt-ltb, le-ltb}
use Rattle.fields.specs.Places.{field_read}
use Rattle.fields.proofs.Exits.{handed-on}
use Rattle.fields.proofs.Onward.{judged-got, judged-not, judged-stopped}
use Rattle.plate_texts.proofs.PhraseRead.{width_small}
use Rattle.plate_texts.proofs.phrase_place.read_place.Goals as goal

pub plain_ahead-requires : goal.plain_ahead-requires
plain_ahead-requires c = (c.requires.1, omega (arith, c.width_of.ensures, width_small _ c.requires.4), c.requires.2, c.requires.0)

pub returns-in_err-field : goal.returns-in_err-field
returns-in_err-field c =
    handed-on (field_read _) c.from_residual.result c.from_residual.ensures.1
    ∙ judged-stopped _ _ _ _ _ (rw c.width_of.ensures at c.in_err-field.ensures)

pub returns-then-field-n : goal.returns-then-field-n
returns-then-field-n c = judged-got _ _ _ _ _ (rw c.width_of.ensures at c.in_ok-field.ensures) (lt-ltb _ _ c.if-field-n.true)

pub returns-else-field-n : goal.returns-else-field-n
returns-else-field-n c = judged-not _ _ _ _ _ (rw c.width_of.ensures at c.in_ok-field.ensures) (le-ltb _ _ c.if-field-n.false)
