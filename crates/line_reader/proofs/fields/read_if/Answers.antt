-- `read_if` meets its contract, for a guide and for a listing.
use mathlib.Core.Path.{sym, ap, ◌∙◌}
use Rattle.text.specs.Parts.{comma}
use Rattle.text.proofs.Places.{parts_none}
use Rattle.lines.specs.Line.{if_fields}
use Rattle.lines.specs.Answers.{head_of}
use Rattle.lines.proofs.FieldCounts.{if_none}
use Rattle.line_reader.proofs.fields.read_if.Goals as goal

pub returns-then-s-a : goal.returns-then-s-a
returns-then-s-a c =
    let g = c.args in
    sym (ap head_of (ap (if_fields g.form) (parts_none comma g.s.now g.a c.if-s-a.true) ∙ if_none g.form))
