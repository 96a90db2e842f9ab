-- `put_line` meets its contract: each head has its writer, or no bits.
use mathlib.Core.Path.{refl, sym, ◌∙◌}
use borrow.Author.Rules.{rules}
use Rattle.lines.proofs.FieldPlaces.{whole-rest}
use Rattle.lines.proofs.LineTexts.{texts, asked-register, asked-text, chosen-register, chosen-texts}
use Rattle.writer.proofs.LineBits.{headed, line_writes, line-silent, faulty-silent}
use Rattle.writer.proofs.listing.put_line.Goals as goal

pub behind_register-a-requires : goal.behind_register-a-requires
behind_register-a-requires c = asked-register _ _ _ (headed _ c.requires.1 c.in-Ok.is) c.in-Input.is

pub behind_register-a-requires-in-Inputs : goal.behind_register-a-requires-in-Inputs
behind_register-a-requires-in-Inputs c = chosen-register _ _ _ _ (headed _ c.requires.1 c.in-Ok.is) c.in-Inputs.is

pub put_inputs-requires : goal.put_inputs-requires
put_inputs-requires c =
    let t = texts _ _ _ (headed _ c.requires.1 c.in-Ok.is) c.in-Inputs.is in
    (search rules, c.behind_register-a-in-Inputs.ensures.1, chosen-texts _ _ _ _ _ (headed _ c.requires.1 c.in-Ok.is) c.in-Inputs.is c.behind_register-a-in-Inputs.ensures.0, t.0, t.1)

pub slice_bounds-put_text-count : goal.slice_bounds-put_text-count
slice_bounds-put_text-count c = (texts _ _ _ (headed _ c.requires.1 c.in-Ok.is) c.in-Print.is).1

pub slice_bounds-put_text-start : goal.slice_bounds-put_text-start
slice_bounds-put_text-start c = let room = (texts _ _ _ (headed _ c.requires.1 c.in-Ok.is) c.in-Print.is).1 in search rules

pub slice_bounds-put_text-count-in-Printex : goal.slice_bounds-put_text-count-in-Printex
slice_bounds-put_text-count-in-Printex c = (texts _ _ _ (headed _ c.requires.1 c.in-Ok.is) c.in-Printex.is).1

pub slice_bounds-put_text-start-in-Printex : goal.slice_bounds-put_text-start-in-Printex
slice_bounds-put_text-start-in-Printex c = let room = (texts _ _ _ (headed _ c.requires.1 c.in-Ok.is) c.in-Printex.is).1 in search rules

pub returns-in-Input : goal.returns-in-Input
returns-in-Input c =
    let t = asked-text _ _ _ _ (headed _ c.requires.1 c.in-Ok.is) c.in-Input.is c.behind_register-a.ensures.0 c.behind_register-a.ensures.1 in
    line_writes _ _ _ _ c.in-Ok.is c.in-Input.is _ _ _ _ refl (rw t at c.put_input.ensures)

pub returns-in-Inputs : goal.returns-in-Inputs
returns-in-Inputs c = line_writes _ _ _ _ c.in-Ok.is c.in-Inputs.is _ _ _ _ refl c.put_inputs.ensures

pub returns-in-Print : goal.returns-in-Print
returns-in-Print c =
    let t = whole-rest c.args.line.now 6 ∙ sym (texts _ _ _ (headed _ c.requires.1 c.in-Ok.is) c.in-Print.is).0 in
    line_writes _ _ _ _ c.in-Ok.is c.in-Print.is _ _ _ _ refl (rw t at c.put_text.ensures)

pub returns-in-Printex : goal.returns-in-Printex
returns-in-Printex c =
    let t = whole-rest c.args.line.now 8 ∙ sym (texts _ _ _ (headed _ c.requires.1 c.in-Ok.is) c.in-Printex.is).0 in
    line_writes _ _ _ _ c.in-Ok.is c.in-Printex.is _ _ _ _ refl (rw t at c.put_text-in-Printex.ensures)

pub returns-in-Goto : goal.returns-in-Goto
returns-in-Goto c = line_writes _ _ _ _ c.in-Ok.is c.in-Goto.is _ _ _ _ refl c.put_goto.ensures

pub returns-in-IfSkip : goal.returns-in-IfSkip
returns-in-IfSkip c =
    line_writes _ _ _ _ c.in-Ok.is c.in-IfSkip.is _ _ _ _ refl (c.put_if.ensures c.args.known.now)

pub returns-in_default-head : goal.returns-in_default-head
returns-in_default-head c =
    let d = c.in_default-head in
    line-silent _ d.not-Input d.not-Inputs d.not-Print d.not-Printex d.not-Goto d.not-IfSkip c.in-Ok.is _ _ _ _ (search rules)

pub returns-in_default : goal.returns-in_default
returns-in_default c = faulty-silent _ _ _ c.in_default.not-Ok _ _ (search rules)
