-- `read_source` meets its contract: own phrases alone, the book alone, or the bit that says which.
use Rattle.std.proofs.Common.{◌∙◌}
use Rattle.fields.proofs.Exits.{handed-on}
use Rattle.fields.proofs.Onward.{then-got, then-stopped}
use Rattle.plate_texts.specs.Sources.{source_read}
use Rattle.plate_texts.proofs.NumberEnds.{bit-read}
use Rattle.plate_texts.proofs.SourceRead.{both, bit-source}
use Rattle.plate_texts.proofs.phrase_place.read_source.Goals as goal

pub returns-in_err-bit : goal.returns-in_err-bit
returns-in_err-bit c =
    handed-on (source_read _ _) c.from_residual.result c.from_residual.ensures.1
    ∙ then-stopped _ _ _ c.in_err-bit.ensures ∙ both _ _ _ c.in_default.ensures.0 c.in_default.ensures.1

pub returns : goal.returns
returns c =
    bit-source _ _ _ _ _ c.source_by.ensures ∙ then-got _ _ _ (bit-read _ _ _ _ c.in_ok-bit.ensures)
    ∙ both _ _ _ c.in_default.ensures.0 c.in_default.ensures.1
