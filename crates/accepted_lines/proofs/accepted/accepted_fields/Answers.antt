-- `accepted_fields` meets its contract, kind by kind.
use mathlib.Core.Path.{refl}
use Rattle.text.specs.Parts.{comma, parts_from}
use Rattle.transcript.specs.Statement.{print, printex}
use Rattle.lines.specs.Line.{says, else_line, fi_line}
use Rattle.text.specs.Text.{is_text}
use Rattle.lines.proofs.CleanLines.{text-clean, phrase-clean, bare-clean, of-kind, head-of-kind}
use Rattle.accepted_lines.proofs.accepted.accepted_fields.Goals as goal

pub accepted_input-requires : goal.accepted_input-requires
accepted_input-requires c = of-kind _ _ c.in-Input.is c.requires

pub accepted_inputs-requires : goal.accepted_inputs-requires
accepted_inputs-requires c = of-kind _ _ c.in-Inputs.is c.requires

pub accepted_if-requires : goal.accepted_if-requires
accepted_if-requires c = of-kind _ _ c.in-If.is c.requires

pub accepted_goto-requires : goal.accepted_goto-requires
accepted_goto-requires c = of-kind _ _ c.in-Goto.is c.requires

pub returns-in-Phrase : goal.returns-in-Phrase
returns-in-Phrase c =
    let fs = parts_from comma c.args.a c.args.s.now in
    head-of-kind _ fs c.in-Phrase.is (phrase-clean c.args.form fs (of-kind c.args.form fs c.in-Phrase.is c.requires))

pub returns-in-Input : goal.returns-in-Input
returns-in-Input c = head-of-kind _ _ c.in-Input.is c.accepted_input.ensures

pub returns-in-Inputs : goal.returns-in-Inputs
returns-in-Inputs c = head-of-kind _ _ c.in-Inputs.is c.accepted_inputs.ensures

pub returns-in-Print : goal.returns-in-Print
returns-in-Print c =
    let fs = parts_from comma c.args.a c.args.s.now in
    head-of-kind _ fs c.in-Print.is (text-clean is_text (λ t. says (print t)) (λ t. refl) fs (of-kind c.args.form fs c.in-Print.is c.requires))

pub returns-in-Printex : goal.returns-in-Printex
returns-in-Printex c =
    let fs = parts_from comma c.args.a c.args.s.now in
    head-of-kind _ fs c.in-Printex.is (text-clean is_text (λ t. says (printex t)) (λ t. refl) fs (of-kind c.args.form fs c.in-Printex.is c.requires))

pub returns-in-If : goal.returns-in-If
returns-in-If c = head-of-kind _ _ c.in-If.is c.accepted_if.ensures

pub returns-in-Else : goal.returns-in-Else
returns-in-Else c = head-of-kind _ _ c.in-Else.is (bare-clean c.args.form else_line _ (of-kind _ _ c.in-Else.is c.requires))

pub returns-in-Fi : goal.returns-in-Fi
returns-in-Fi c = head-of-kind _ _ c.in-Fi.is (bare-clean c.args.form fi_line _ (of-kind _ _ c.in-Fi.is c.requires))

pub returns-in-Goto : goal.returns-in-Goto
returns-in-Goto c = head-of-kind _ _ c.in-Goto.is c.accepted_goto.ensures
