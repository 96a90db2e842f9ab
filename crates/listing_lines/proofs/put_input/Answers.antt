-- `put_input` meets its contract: the word, the question and LF are the line.
use mathlib.Core.Path.{refl, ◌∙◌}
use native.Mathlib.Omega.{arith}
use Rattle.text.specs.Quoted.{bytes}
use Rattle.output.proofs.Pour.{then}
use Rattle.plate_texts.proofs.CopiedTexts.{poured-alike}
use Rattle.instructions.proofs.Headed.{input-text, input-is, input-end}
use Rattle.listing_lines.proofs.LineBytes.{two_fields}
use Rattle.listing_lines.proofs.HeadLines.{line-is}
use borrow.Author.Rules.{rules}
use Rattle.listing_lines.proofs.put_input.Goals as goal

pub put_question-asked-requires : goal.put_question-asked-requires
put_question-asked-requires c = (search rules, search rules, input-text _ _ _ refl c.requires.2 refl)

pub returns : goal.returns
returns c =
    let asked = then _ _ _ _ _ _ _ c.put-from.ensures c.put_question-asked.ensures.tail_after (omega (arith, c.well_formed)) in record { tail_after = line-is _ (input-is _ _ _ refl c.requires.2 refl) (poured-alike 0 _ (then _ _ _ _ _ _ _ asked c.put_byte-end.ensures (omega (arith, c.well_formed))) (two_fields (bytes "input") _ _)); next_value = c.put_question-asked.ensures.next_value ∙ input-end _ _ _ refl refl }
