-- `read_fields` meets its contract: the first field is the kind, if it is one.
use mathlib.Core.Path.{refl, sym, ap, ◌∙◌}
use Rattle.std.proofs.lemmas.Result.{err_from_is_err_and}
use Rattle.lines.specs.Answers.{head_of}
use Rattle.lines.proofs.KindLines.{fields-of-kind}
use Rattle.line_reader.proofs.Missing.{missing}
use Rattle.line_reader.proofs.line.read_fields.Goals as goal

pub returns-in_err-kind : goal.returns-in_err-kind
returns-in_err-kind c =
    let n = c.in_err-kind.ensures.ok_part in
    let p = err_from_is_err_and c.from_residual.result c.from_residual.ensures.1 in
    let k = fields-of-kind c.args.form c.args.s.now _ _ _ c.find-e.ensures.value refl (sym n ∙ c.kind_of.ensures) in
    rw (p.1, p.2, missing _ n c.in_err-kind.ensures.value) (sym (ap head_of k))

pub returns : goal.returns
returns c =
    let n = c.in_ok-kind.ensures.ok_part in
    let k = fields-of-kind c.args.form c.args.s.now _ _ _ c.find-e.ensures.value refl (sym n ∙ c.kind_of.ensures) in
    c.read_kind.ensures ∙ sym (ap head_of k)
