-- `read_character` meets its contract: a number of so many bits, judged.
use Rattle.std.proofs.Common.{sym, ◌∙◌}
use Rattle.fields.specs.Places.{field_read}
use Rattle.fields.proofs.Exits.{handed-on}
use Rattle.fields.proofs.Onward.{judged-got, judged-not, judged-stopped}
use Rattle.plate_characters.proofs.spelling.read_character.Goals as goal

pub returns-in_err-field : goal.returns-in_err-field
returns-in_err-field c =
    handed-on (field_read _) c.from_residual.result c.from_residual.ensures.1 ∙ judged-stopped _ _ _ _ _ c.in_err-field.ensures

pub returns-then-is_character : goal.returns-then-is_character
returns-then-is_character c = judged-got _ _ _ _ _ c.in_ok-field.ensures (sym c.is_character.ensures ∙ c.if-is_character.true)

pub returns-else-is_character : goal.returns-else-is_character
returns-else-is_character c = judged-not _ _ _ _ _ c.in_ok-field.ensures (sym c.is_character.ensures ∙ c.if-is_character.false)
