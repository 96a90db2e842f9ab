-- `field_at` meets its contract: from the place to the next comma, or to the end.
use mathlib.Core.Path.{sym}
use Rattle.lines.proofs.FieldPlaces.{first-none, first_field}
use Rattle.line_reader.proofs.fields.field_at.Goals as goal

pub returns-then-s-a : goal.returns-then-s-a
returns-then-s-a c = sym (first-none _ _ c.if-s-a.true)

pub returns : goal.returns
returns c = first_field _ _ _ c.if-s-a.false c.find.ensures.value
