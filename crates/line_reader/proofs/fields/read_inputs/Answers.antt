-- `read_inputs` meets its contract: 4 to 10 fields, of which the first is a register and the others are texts.
use Prim.Native.Nat.{◌≤◌}
use mathlib.Core.Path.{sym, ap, ◌∙◌}
use native.Mathlib.Omega.{arith}
use lib.ListN.{drop, length-drop}
use borrow.Author.Tests.{le-leb}
use Rattle.text.specs.Parts.{all}
use Rattle.text.specs.Text.{is_text}
use Rattle.lines.proofs.FieldCounts.{inputs-counted}
use Rattle.lines.proofs.FieldPlaces.{rest-parts, fields-there}
use Rattle.line_reader.proofs.fields.read_inputs.Goals as goal

pub slice_bounds-are_texts-count : goal.slice_bounds-are_texts-count
slice_bounds-are_texts-count c = fields-there c.args.s.now c.args.a (λ e. omega (arith, c.count_fields-n.ensures))

pub slice_bounds-are_texts-start : goal.slice_bounds-are_texts-start
slice_bounds-are_texts-start c = omega (arith, fields-there c.args.s.now c.args.a (λ e. omega (arith, c.count_fields-n.ensures)))

pub returns-then-not-are_texts : goal.returns-then-not-are_texts
returns-then-not-are_texts c =
    let low : 4 ≤ c.count_fields-n.result = omega arith in
    let high : c.count_fields-n.result ≤ 10 = omega arith in
    let whole = rest-parts c.args.s.now c.args.a (fields-there c.args.s.now c.args.a (λ e. omega (arith, c.count_fields-n.ensures))) in
    let r = rw c.field_at.ensures at (sym c.read_natural.ensures ∙ c.in_ok-register.ensures.ok_part) in
    let t = sym (c.are_texts.ensures ∙ ap (λ fs. all is_text (drop 1 fs)) whole) ∙ c.if-not-are_texts.true in
    simp (inputs-counted, sym c.count_fields-n.ensures, le-leb _ _ low, le-leb _ _ high, r, t)

pub returns : goal.returns
returns c =
    let low : 4 ≤ c.count_fields-n.result = omega arith in
    let high : c.count_fields-n.result ≤ 10 = omega arith in
    let whole = rest-parts c.args.s.now c.args.a (fields-there c.args.s.now c.args.a (λ e. omega (arith, c.count_fields-n.ensures))) in
    let r = rw c.field_at.ensures at (sym c.read_natural.ensures ∙ c.in_ok-register.ensures.ok_part) in
    let t = sym (c.are_texts.ensures ∙ ap (λ fs. all is_text (drop 1 fs)) whole) ∙ c.if-not-are_texts.false in
    simp (inputs-counted, length-drop, sym c.count_fields-n.ensures, le-leb _ _ low, le-leb _ _ high, r, t)
