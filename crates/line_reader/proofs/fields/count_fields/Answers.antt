-- `count_fields` meets its contract: the fields are the parts of what stands from the place on.
use mathlib.Core.Path.{sym, ap, ◌∙◌}
use lib.ListN.{length}
use Rattle.text.specs.Parts.{comma, split}
use Rattle.text.proofs.Places.{parts-some, parts_none}
use Rattle.lines.proofs.FieldPlaces.{whole-rest}
use Rattle.line_reader.proofs.fields.count_fields.Goals as goal

pub returns-then-s-a : goal.returns-then-s-a
returns-then-s-a c = sym (ap length (parts_none comma _ _ c.if-s-a.true))

pub returns-else-s-a : goal.returns-else-s-a
returns-else-s-a c = let g = c.args in
    c.count_parts.ensures ∙ ap (λ t. length (split comma t)) (whole-rest g.s.now g.a) ∙ sym (ap length (parts-some comma _ _ c.if-s-a.false))
