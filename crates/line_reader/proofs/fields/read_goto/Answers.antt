-- `read_goto` meets its contract: one field, which is a skip, in a listing alone.
use mathlib.Core.Path.{sym, ap, ◌∙◌}
use Rattle.std.specs.Prelude.{Err}
use Rattle.std.proofs.lemmas.Result.{err_from_is_err_and}
use Rattle.text.specs.Parts.{comma}
use Rattle.text.proofs.Places.{parts_none}
use Rattle.lines.proofs.FieldPlaces.{goto-only, goto-more}
use Rattle.line_reader.proofs.Missing.{missing}
use Rattle.line_reader.proofs.fields.read_goto.Goals as goal

pub returns-then-s-a : goal.returns-then-s-a
returns-then-s-a c = simp (c.in_default.is, parts_none comma c.args.s.now c.args.a c.if-s-a.true)

pub returns-then-e-s : goal.returns-then-e-s
returns-then-e-s c = simp (c.in_default.is, goto-more c.args.s.now c.args.a _ c.if-s-a.false c.find-e.ensures.value c.if-e-s.true)

pub returns-in_err-skip : goal.returns-in_err-skip
returns-in_err-skip c =
    let one = goto-only c.args.s.now c.args.a _ c.if-s-a.false c.find-e.ensures.value c.if-e-s.false in
    let n = c.in_err-skip.ensures.ok_part in
    let p = err_from_is_err_and c.from_residual.result c.from_residual.ensures.1 in
    simp (c.in_default.is, one, sym c.read_natural.ensures ∙ n, p.1, p.2)
    (ap Err (missing _ n c.in_err-skip.ensures.value))

pub returns : goal.returns
returns c =
    let one = goto-only c.args.s.now c.args.a _ c.if-s-a.false c.find-e.ensures.value c.if-e-s.false in
    let n = sym c.read_natural.ensures ∙ c.in_ok-skip.ensures.ok_part in
    simp (c.in_default.is, one, n)
