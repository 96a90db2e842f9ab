-- `copy_phrase` meets its contract: the phrase at its place, and its bytes.
use mathlib.Core.Path.{ap, ◌∙◌}
use Rattle.fields.specs.Places.{end_with, values_of}
use Rattle.plate_texts.proofs.CopiedTexts.{poured-alike}
use Rattle.plate_texts.proofs.copying.copy_phrase.Goals as goal

pub returns : goal.returns
returns c =
    let phrase = c.accepted_phrase-phrase.ensures in
    record {
      out_after = poured-alike _ _ c.put-end.ensures (c.text-text.ensures ∙ ap values_of phrase.next_value);
      next_value = ap (end_with 0) phrase.next_value;
    }
