-- `accepted_source` meets its contract: own phrases alone, the book alone, or the bit that says which.
use Rattle.std.proofs.Common.{◌∙◌, ◌+◌, refl, arith}
use Rattle.fields.proofs.Onward.{then-got}
use Rattle.fields.proofs.Ahead.{part-read}
use Rattle.plate_texts.proofs.Known.{known_same, known-first}
use Rattle.plate_texts.proofs.SourceRead.{both, bit-source}
use Rattle.plate_texts.proofs.phrase_place.accepted_source.Goals as goal

pub returns-in-None : goal.returns-in-None
returns-in-None c =
    let two = both _ _ _ c.in-None.ensures.0 c.in-None.ensures.1 in
    let known = known-first _ _ _ (known_same two c.requires.1) in
    let bit = part-read _ _ c.requires.0 2 1 (omega arith) c.part_ahead.ensures.0 (c.args.at + 2) (c.args.at + 3) refl (omega arith) known in
    bit-source _ _ _ _ _ c.source_by.ensures ∙ then-got _ _ _ bit ∙ two
