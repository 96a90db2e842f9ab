-- `perform` meets its contract, by cases on the head.
use mathlib.Core.Path.{sym, ◌∙◌}
use borrow.Author.Rules.{rules}
use native.Mathlib.Omega.{arith}
use Rattle.lines.proofs.FieldPlaces.{whole-rest}
use Rattle.lines.proofs.LineTexts.{texts, asked-register, asked-text}
use Rattle.walk_blocks.proofs.LineStatements.{is-printex}
use Rattle.walk_blocks.proofs.perform.perform.Goals as goal

pub behind_register-a-requires : goal.behind_register-a-requires
behind_register-a-requires c = asked-register _ _ _ c.requires.1 c.in-Input.is

pub ask-requires : goal.ask-requires
ask-requires c = (simp c.in-Input.is at c.requires.0, search rules)

pub offer-requires : goal.offer-requires
offer-requires c =
    let v = simp c.in-Inputs.is at c.requires.0 in
    (v.0, v.1, v.2, search rules)

pub slice_bounds-show-count : goal.slice_bounds-show-count
slice_bounds-show-count c = (texts _ _ _ c.requires.1 c.in-Print.is).1

pub slice_bounds-show-start : goal.slice_bounds-show-start
slice_bounds-show-start c = (texts _ _ _ c.requires.1 c.in-Print.is).1

pub slice_bounds-rule-count : goal.slice_bounds-rule-count
slice_bounds-rule-count c = (texts _ _ _ c.requires.1 (is-printex _ _ c.requires.0 c.in_default.not-Input c.in_default.not-Inputs c.in_default.not-Print)).1

pub slice_bounds-rule-start : goal.slice_bounds-rule-start
slice_bounds-rule-start c = (texts _ _ _ c.requires.1 (is-printex _ _ c.requires.0 c.in_default.not-Input c.in_default.not-Inputs c.in_default.not-Print)).1

pub returns-in-Input : goal.returns-in-Input
returns-in-Input c =
    let t = asked-text _ _ _ _ c.requires.1 c.in-Input.is c.behind_register-a.ensures.0 c.behind_register-a.ensures.1 in
    record { out_after = simp c.in-Input.is (rw t at c.ask.ensures.out_after); steps_bound = omega (arith, c.ask.ensures.steps_value) }

pub returns-in-Inputs : goal.returns-in-Inputs
returns-in-Inputs c = record { out_after = simp c.in-Inputs.is c.offer.ensures.out_after; steps_bound = c.offer.ensures.steps_bound }

pub returns-in-Print : goal.returns-in-Print
returns-in-Print c =
    let t = whole-rest c.args.line.now 6 ∙ sym (texts _ _ _ c.requires.1 c.in-Print.is).0 in
    record { out_after = simp c.in-Print.is (rw t at (c.show.ensures.out_after c.args.registers.now c.args.answers.now)); steps_bound = omega (arith, c.show.ensures.steps_value.0) }

pub returns-in_default : goal.returns-in_default
returns-in_default c =
    let e = is-printex c.args.head _ c.requires.0 c.in_default.not-Input c.in_default.not-Inputs c.in_default.not-Print in
    let t = whole-rest c.args.line.now 8 ∙ sym (texts _ _ _ c.requires.1 e).0 in
    record { out_after = rw e (rw t at (c.rule.ensures.out_after c.args.registers.now c.args.answers.now)); steps_bound = omega (arith, c.rule.ensures.steps_value.0) }
