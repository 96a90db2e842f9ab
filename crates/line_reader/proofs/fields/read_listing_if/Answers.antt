-- `read_listing_if` meets its contract: four fields, of which the first three are a test and the last is a skip.
use native.Mathlib.Omega.{arith}
use mathlib.Core.Path.{sym, ap, ◌∙◌}
use Rattle.std.specs.Prelude.{Err}
use Rattle.std.proofs.lemmas.Result.{err_from_is_err_and}
use Rattle.text.specs.Parts.{comma, parts_from}
use Rattle.line_reader.proofs.Missing.{missing}
use Rattle.line_reader.proofs.TestFields.{wrong-listing, listing-less, listing-more, listing-test}
use Rattle.line_reader.proofs.fields.read_listing_if.Goals as goal

pub returns-in_default : goal.returns-in_default
returns-in_default c =
    let s = c.args.s.now in
    let fs = parts_from comma c.args.a s in
    ap Err c.wrong_test.ensures ∙ wrong-listing fs c.in_default.ensures

pub returns-then-end-s : goal.returns-then-end-s
returns-then-end-s c =
    let s = c.args.s.now in
    let fs = parts_from comma c.args.a s in
    let t = rw c.in-Some.is at c.read_test.ensures in
    listing-less s fs t.0 t.1 t.2 _ t.3 c.if-end-s.true

pub overflow_add-k : goal.overflow_add-k
overflow_add-k c =
    let s = c.args.s.now in
    let fs = parts_from comma c.args.a s in
    let t = rw c.in-Some.is at c.read_test.ensures in
    omega (arith, t.5)

pub find-e-requires : goal.find-e-requires
find-e-requires c =
    let s = c.args.s.now in
    let fs = parts_from comma c.args.a s in
    let t = rw c.in-Some.is at c.read_test.ensures in
    omega (arith, t.5, c.if-end-s.false)

pub returns-then-e-s : goal.returns-then-e-s
returns-then-e-s c =
    let s = c.args.s.now in
    let fs = parts_from comma c.args.a s in
    let t = rw c.in-Some.is at c.read_test.ensures in
    listing-more s fs t.0 t.1 t.2 _ t.3 t.4 c.find-e.result (omega (arith, t.5, c.if-end-s.false)) c.find-e.ensures.value c.if-e-s.true

pub returns-in_err-skip : goal.returns-in_err-skip
returns-in_err-skip c =
    let s = c.args.s.now in
    let fs = parts_from comma c.args.a s in
    let t = rw c.in-Some.is at c.read_test.ensures in
    let n = c.in_err-skip.ensures.ok_part in
    let p = err_from_is_err_and c.from_residual.result c.from_residual.ensures.1 in
    rw (p.1, p.2, missing _ n c.in_err-skip.ensures.value)
    (listing-test s fs t.0 t.1 t.2 _ t.3 t.4 c.find-e.result (omega (arith, t.5, c.if-end-s.false)) c.find-e.ensures.value c.if-e-s.false
    (sym c.read_natural.ensures ∙ n))

pub returns : goal.returns
returns c =
    let s = c.args.s.now in
    let fs = parts_from comma c.args.a s in
    let t = rw c.in-Some.is at c.read_test.ensures in
    let n = sym c.read_natural.ensures ∙ c.in_ok-skip.ensures.ok_part in
    listing-test s fs t.0 t.1 t.2 _ t.3 t.4 c.find-e.result (omega (arith, t.5, c.if-end-s.false)) c.find-e.ensures.value c.if-e-s.false n
