-- `read_guide_if` meets its contract: three fields, which are a test.
use mathlib.Core.Path.{ap, ◌∙◌}
use Rattle.std.specs.Prelude.{Err}
use Rattle.text.specs.Parts.{comma, parts_from}
use Rattle.line_reader.proofs.TestFields.{wrong-guide, guide-more, guide-test}
use Rattle.line_reader.proofs.fields.read_guide_if.Goals as goal

pub returns-in_default : goal.returns-in_default
returns-in_default c =
    let s = c.args.s.now in
    let fs = parts_from comma c.args.a s in
    ap Err c.wrong_test.ensures ∙ wrong-guide fs c.in_default.ensures

pub returns-then-end-s : goal.returns-then-end-s
returns-then-end-s c =
    let s = c.args.s.now in
    let fs = parts_from comma c.args.a s in
    let t = rw c.in-Some.is at c.read_test.ensures in
    guide-more s fs t.0 t.1 t.2 _ t.3 c.if-end-s.true

pub returns : goal.returns
returns c =
    let s = c.args.s.now in
    let fs = parts_from comma c.args.a s in
    let t = rw c.in-Some.is at c.read_test.ensures in
    guide-test s fs t.0 t.1 t.2 _ t.3 t.4 c.if-end-s.false
