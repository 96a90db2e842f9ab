-- `read_bare` meets its contract: no field behind the kind, in a guide alone.
use mathlib.Core.Path.{sym}
use Rattle.text.specs.Parts.{comma}
use Rattle.text.proofs.Places.{parts_none}
use Rattle.lines.proofs.FieldPlaces.{bare-more}
use Rattle.line_reader.proofs.fields.read_bare.Goals as goal

pub returns-in-Guide : goal.returns-in-Guide
returns-in-Guide c = λ l h. simp (c.in-Guide.is, parts_none comma c.args.s.now c.args.a c.if-s-a.true) (sym h)

pub returns-in_default : goal.returns-in_default
returns-in_default c = λ l h. simp (c.in-Guide.is, bare-more c.args.s.now c.args.a l c.if-s-a.false)
