-- `read_input` meets its contract: behind the register stands one text.
use mathlib.Core.Path.{refl, sym, ap, ◌∙◌}
use Rattle.std.proofs.lemmas.Result.{err_from_is_err_and}
use Rattle.std.specs.Prelude.{Err}
use Rattle.text.specs.Parts.{comma}
use Rattle.text.proofs.Places.{parts_none, parts_next}
use Rattle.line_reader.proofs.Missing.{missing}
use Rattle.line_reader.proofs.OneText.{input-line}
use Rattle.line_reader.proofs.fields.read_input.Goals as goal

pub returns-then-s-a : goal.returns-then-s-a
returns-then-s-a c = simp (parts_none comma c.args.s.now c.args.a c.if-s-a.true)

pub returns-in_err-judge_text : goal.returns-in_err-judge_text
returns-in_err-judge_text c =
    let fields = parts_next comma c.args.s.now c.args.a c.find-e.result c.if-s-a.false c.find-e.ensures.value in
    let p = err_from_is_err_and c.from_residual.result c.from_residual.ensures.1 in
    rw (fields, input-line, sym c.in_err-judge_text.ensures, p.1, p.2) refl

pub returns-in_err-register : goal.returns-in_err-register
returns-in_err-register c =
    let fields = parts_next comma c.args.s.now c.args.a c.find-e.result c.if-s-a.false c.find-e.ensures.value in
    let n = c.in_err-register.ensures.ok_part in
    let p = err_from_is_err_and c.from_residual-in_err-register.result c.from_residual-in_err-register.ensures.1 in
    rw (fields, input-line)
    (simp (sym c.in_ok-judge_text.ensures, sym c.read_natural.ensures ∙ n, p.1, p.2) (ap Err (missing _ n c.in_err-register.ensures.value)))

pub returns : goal.returns
returns c =
    let fields = parts_next comma c.args.s.now c.args.a c.find-e.result c.if-s-a.false c.find-e.ensures.value in
    let n = sym c.read_natural.ensures ∙ c.in_ok-register.ensures.ok_part in
    rw (fields, input-line) (simp (sym c.in_ok-judge_text.ensures, n))
