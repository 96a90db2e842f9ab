-- `put_inputs` meets its contract: the fields of the line, one behind the other; the code and the register are one number.
use Rattle.lines.proofs.LineTexts.{chosen-text, chosen-options}
use Rattle.writer.proofs.Codes.{code-register}
use Rattle.text_bits.proofs.Writes.{both}
use Rattle.writer.proofs.instructions.put_inputs.Goals as goal

pub returns : goal.returns
returns c =
    let s = c.args.line.now in
    let question = rw (chosen-text s _ _ c.requires.1 c.find-e.ensures.value c.requires.2, code-register 1 c.args.register) at c.put_text-end.ensures in
    let number = rw c.requires.3 at c.put_bits-end.ensures in
    let front = both _ _ _ _ question number c.requires.0 in
    both _ _ _ _ front (rw (chosen-options s _ _ c.requires.1 c.find-e.ensures.value c.requires.2) at c.put_texts.ensures) c.requires.0
