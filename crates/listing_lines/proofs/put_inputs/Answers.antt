-- `put_inputs` meets its contract: the word, the question, the options and LF are the line.
use mathlib.Core.Path.{refl, ◌∙◌}
use native.Mathlib.Omega.{arith}
use Rattle.text.specs.Quoted.{bytes}
use Rattle.output.proofs.Pour.{then}
use Rattle.plate_texts.proofs.CopiedTexts.{poured-alike}
use Rattle.instructions.proofs.Counted.{options-end}
use Rattle.instructions.proofs.Headed.{inputs-text, inputs-options, inputs-is, inputs_end}
use Rattle.listing_lines.proofs.LineBytes.{more-fields}
use Rattle.listing_lines.proofs.HeadLines.{line-is}
use borrow.Author.Rules.{rules}
use Rattle.listing_lines.proofs.put_inputs.Goals as goal

pub put_question-asked-requires : goal.put_question-asked-requires
put_question-asked-requires c = (search rules, search rules, inputs-text _ _ _ refl c.requires.2 refl)

pub copy_options-offered-requires : goal.copy_options-offered-requires
copy_options-offered-requires c = (search rules, inputs-options _ _ _ refl c.requires.2 refl c.put_question-asked.ensures.next_value)

pub returns : goal.returns
returns c =
    let asked = then _ _ _ _ _ _ _ c.put-from.ensures c.put_question-asked.ensures.tail_after (omega (arith, c.well_formed)) in
    record { tail_after = line-is _ (inputs-is _ _ _ refl c.requires.2 refl c.put_question-asked.ensures.next_value) (poured-alike 0 _ (then _ _ _ _ _ _ _ (then _ _ _ _ _ _ _ asked c.copy_options-offered.ensures.out_after (omega (arith, c.well_formed))) c.put_byte-end.ensures (omega (arith, c.well_formed))) (more-fields (bytes "inputs") _ _ _)); next_value = options-end _ _ c.copy_options-offered.ensures.next_value ∙ inputs_end _ _ _ refl refl c.put_question-asked.ensures.next_value }
